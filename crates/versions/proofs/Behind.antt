-- What is behind an event by name, in the log of a store's events.
use Rattle.std.proofs.Common.{◌≡◌, ℕ, zero, suc, List, [], ◌∷◌, map, Some, sym, refl, ap, ◌∙◌, subst, inl, inr}
use Rattle.std.specs.List.{slice_get}
use Rattle.std.proofs.lemmas.Option.{slice_get_within}
use Rattle.events.specs.declared.name.Name.{Name}
use Rattle.events.specs.Parts.{NamedEvent, StoredEvent}
use Rattle.events.specs.WellFormed.{WellFormed}
use Rattle.fugue.specs.Names.{◌∈◌}
use Rattle.fugue.specs.Logs.{NewestFirst, Behind, parent, further, log_of, named_in, name_at}
use Rattle.fugue.proofs.Lists.{in_left, in_right, in_either, map_member, member_map, nth_in}
use Rattle.fugue.proofs.Archived.{in_reverse, from_reverse}
use Rattle.versions.specs.Versions.{InVersion}
use Rattle.versions.specs.Named.{names_of}
use Rattle.versions.proofs.Reached.{by_head, by_parent}

-- ---- numbers and names

pub place_of : {X : Type 0} (xs : List X) (x : X) → x ∈ xs → (k : ℕ) × (slice_get xs k ≡ Some x)
place_of [] x i = elim i [ ]
place_of (y ∷ xs) x (inl e) = (0, ap Some (sym e))
place_of (y ∷ xs) x (inr i) = let r = place_of xs x i in (suc r.0, r.1)

name_of : (es : List StoredEvent) (n : ℕ) (e : StoredEvent) → slice_get es n ≡ Some e → name_at (map (λ d. d.name) es) n ≡ e.name ∷ []
name_of [] n e h = cc
name_of (d ∷ es) zero e h = let q : d ≡ e = cc in ap (λ (c : StoredEvent). c.name ∷ []) q
name_of (d ∷ es) (suc n) e h = name_of es n e h

named_at : (es : List StoredEvent) (n : ℕ) (x : Name) → x ∈ name_at (map (λ d. d.name) es) n → (e : StoredEvent) × (slice_get es n ≡ Some e) × (e.name ≡ x)
named_at [] n x i = elim i [ ]
named_at (d ∷ es) zero x (inl q) = (d, refl, sym q)
named_at (d ∷ es) zero x (inr i) = elim i [ ]
named_at (d ∷ es) (suc n) x i = named_at es n x i

pub in_names : (es : List StoredEvent) (ps : List ℕ) (k p : ℕ) (e : StoredEvent) → slice_get ps k ≡ Some p → slice_get es p ≡ Some e → e.name ∈ names_of es ps
in_names es [] k p e h at = cc
in_names es (q ∷ ps) zero p e h at =
    let same : q ≡ p = cc in
    in_left (name_at (map (λ d. d.name) es) q) (names_of es ps) e.name (subst (λ (l : List Name). e.name ∈ l) (sym (ap (name_at (map (λ d. d.name) es)) same ∙ name_of es p e at)) (inl refl))
in_names es (q ∷ ps) (suc k) p e h at = in_right (name_at (map (λ d. d.name) es) q) (names_of es ps) e.name (in_names es ps k p e h at)

pub from_names : (es : List StoredEvent) (ps : List ℕ) (x : Name) → x ∈ names_of es ps → (k : ℕ) × (p : ℕ) × (e : StoredEvent) × (slice_get ps k ≡ Some p) × (slice_get es p ≡ Some e) × (e.name ≡ x)
from_names es [] x i = elim i [ ]
from_names es (q ∷ ps) x i = elim (in_either (name_at (map (λ d. d.name) es) q) (names_of es ps) x i) [
  | inl j ↦ let r = named_at es q x j in (0, q, r.0, refl, r.1, r.2)
  | inr j ↦ let r = from_names es ps x j in (suc r.0, r.1, r.2, r.3, r.4, r.5)
]

-- ---- the log

pub in_log : (es : List StoredEvent) (n : ℕ) (e : StoredEvent) → slice_get es n ≡ Some e → named_in es e ∈ log_of es
in_log es n e at = in_reverse (map (named_in es) es) [] (named_in es e) (inl (map_member (named_in es) es e (nth_in es n e at)))

from_log : (es : List StoredEvent) (d : NamedEvent) → d ∈ log_of es → (n : ℕ) × (e : StoredEvent) × (slice_get es n ≡ Some e) × (d ≡ named_in es e)
from_log es d i =
    let j : d ∈ map (named_in es) es = elim (from_reverse (map (named_in es) es) [] d i) [ inl k ↦ k | inr k ↦ elim k [ ] ] in
    let r = member_map (named_in es) es d j in
    let p = place_of es r.0 r.1 in
    (p.0, r.0, p.1, r.2)

pub behind_parent : (log : NewestFirst) (d : NamedEvent) (x : Name) → d ∈ log → x ∈ d.parents → Behind log d.name x
behind_parent log d x i j = parent d i refl j

pub behind_more : (log : NewestFirst) (d : NamedEvent) (x : Name) → d ∈ log → x ∈ d.parents → {h y : Name} → Behind log h y → d.name ≡ y → Behind log h x
behind_more log d x i j (parent {x = y} e k q m) is = further e y k q m (parent d i is j)
behind_more log d x i j (further e p k q m b) is = further e p k q m (behind_more log d x i j b is)

-- the number of a name that is behind an event of a version
module _ (es : List StoredEvent) (fit : WellFormed es) (heads : List ℕ) where
  parent_held : (e : NamedEvent) → e ∈ log_of es → (n : ℕ) (c : StoredEvent) → slice_get es n ≡ Some c → e.name ≡ c.name → InVersion es heads n → (x : Name) → x ∈ e.parents → (m : ℕ) × (d : StoredEvent) × (slice_get es m ≡ Some d) × (d.name ≡ x) × InVersion es heads m
  parent_held e i n c at is v x j =
      let r = from_log es e i in
      let same : r.0 ≡ n = fit.names r.0 n r.1 c r.2 at (sym (ap (λ (d : NamedEvent). d.name) r.3) ∙ is) in
      let p = from_names es r.1.parents x (subst (λ (d : NamedEvent). x ∈ d.parents) r.3 j) in
      (p.1, p.2, p.4, p.5, by_parent es heads r.0 p.1 p.0 r.1 r.2 p.3 (subst (InVersion es heads) (sym same) v))

  pub behind_held : {h x : Name} → Behind (log_of es) h x → (n : ℕ) (c : StoredEvent) → slice_get es n ≡ Some c → c.name ≡ h → InVersion es heads n → (m : ℕ) × (d : StoredEvent) × (slice_get es m ≡ Some d) × (d.name ≡ x) × InVersion es heads m
  behind_held (parent {x = x} e i q j) n c at is v = parent_held e i n c at (q ∙ sym is) v x j
  behind_held (further e p i q j b) n c at is v =
      let r = parent_held e i n c at (q ∙ sym is) v p j in
      behind_held b r.0 r.1 r.2 r.3 r.4

  pub head_held : (x : Name) → x ∈ names_of es heads → (m : ℕ) × (d : StoredEvent) × (slice_get es m ≡ Some d) × (d.name ≡ x) × InVersion es heads m
  head_held x i =
      let r = from_names es heads x i in
      (r.1, r.2, r.4, r.5, by_head es heads r.1 r.0 r.3 (slice_get_within es r.1 r.2 r.4))
