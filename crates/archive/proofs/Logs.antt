-- The log of a store's events, by event numbers.
use Rattle.std.proofs.Common.{◌≡◌, ℕ, zero, suc, List, [], ◌∷◌, map, Some, Option, sym, ap, ◌∙◌, inl, inr}
use Rattle.std.specs.List.{slice_get}
use Rattle.std.specs.Option.{option_map, option_flatten}
use Rattle.events.specs.declared.name.Name.{Name}
use Rattle.events.specs.Parts.{NamedEvent, StoredEvent}
use Rattle.fugue.specs.Names.{◌∈◌}
use Rattle.fugue.specs.Logs as logs
use Rattle.fugue.specs.Logs.{named_in, log_of}
use Rattle.fugue.proofs.Lists.{map_member, member_map, in_joined, from_joined}
use Rattle.fugue.proofs.Archived.{in_reverse, from_reverse}
use Rattle.stores.specs.Questions.{name_at, parent_at}
use Rattle.stores.specs.Together.{some_is, none_some}

member_at : {X : Type 0} (xs : List X) (x : X) → x ∈ xs → (k : ℕ) × (slice_get xs k ≡ Some x)
member_at [] x i = elim i [ ]
member_at (y ∷ xs) x (inl e) = (0, ap Some (sym e))
member_at (y ∷ xs) x (inr i) = let r = member_at xs x i in (suc r.0, r.1)

at_member : {X : Type 0} (xs : List X) (k : ℕ) (x : X) → slice_get xs k ≡ Some x → x ∈ xs
at_member [] k x h = absurd (none_some h)
at_member (y ∷ xs) zero x h = inl (sym (some_is h))
at_member (y ∷ xs) (suc k) x h = inr (at_member xs k x h)

-- the name of a number, as logs and as stores say it
to_name : (es : List StoredEvent) (j : ℕ) (x : Name) → x ∈ logs.name_at (map (λ d. d.name) es) j → name_at es j ≡ Some x
to_name [] j x i = elim i [ ]
to_name (e ∷ es) zero x (inl q) = ap Some (sym q)
to_name (e ∷ es) zero x (inr i) = elim i [ ]
to_name (e ∷ es) (suc j) x i = to_name es j x i

from_name : (es : List StoredEvent) (j : ℕ) (x : Name) → name_at es j ≡ Some x → x ∈ logs.name_at (map (λ d. d.name) es) j
from_name [] j x h = absurd (none_some h)
from_name (e ∷ es) zero x h = inl (sym (some_is h))
from_name (e ∷ es) (suc j) x h = from_name es j x h

module _ (es : List StoredEvent) where
  pub held_log : (w : ℕ) (e : StoredEvent) → slice_get es w ≡ Some e → named_in es e ∈ log_of es
  held_log w e h = in_reverse (map (named_in es) es) [] (named_in es e) (inl (map_member (named_in es) es e (at_member es w e h)))

  pub from_log : (d : NamedEvent) → d ∈ log_of es → (w : ℕ) × (e : StoredEvent) × (slice_get es w ≡ Some e) × (d ≡ named_in es e)
  from_log d i = elim (from_reverse (map (named_in es) es) [] d i) [
    | inl j ↦ let r = member_map (named_in es) es d j in let k = member_at es r.0 r.1 in (k.0, r.0, k.1, r.2)
    | inr j ↦ elim j [ ]
  ]

  -- a parent's name is the name of a parent's number
  pub parent_number : (w : ℕ) (e : StoredEvent) → slice_get es w ≡ Some e → (x : Name) → x ∈ (named_in es e).parents → (k : ℕ) × (j : ℕ) × (parent_at es w k ≡ Some j) × (name_at es j ≡ Some x)
  parent_number w e h x i =
      let r = from_joined (logs.name_at (map (λ d. d.name) es)) e.parents x i in
      let k = member_at e.parents r.0 r.1 in
      (k.0, r.0, ap (λ (o : Option StoredEvent). option_flatten (option_map (λ ps. slice_get ps k.0) (option_map (λ (d : StoredEvent). d.parents) o))) h ∙ k.1, to_name es r.0 x r.2)

  pub parent_name : (w : ℕ) (e : StoredEvent) → slice_get es w ≡ Some e → (k j : ℕ) (x : Name) → parent_at es w k ≡ Some j → name_at es j ≡ Some x → x ∈ (named_in es e).parents
  parent_name w e h k j x p n =
      let q = sym (ap (λ (o : Option StoredEvent). option_flatten (option_map (λ ps. slice_get ps k) (option_map (λ (d : StoredEvent). d.parents) o))) h) ∙ p in
      in_joined (logs.name_at (map (λ d. d.name) es)) e.parents j x (at_member e.parents k j q) (from_name es j x n)
