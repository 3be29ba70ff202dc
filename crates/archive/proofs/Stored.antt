-- Events of a store by their numbers: how many parents, and that the names of all are few enough.
use Rattle.std.proofs.Common.{◌≡◌, ℕ, zero, suc, ◌<◌, ◌≤◌, List, [], ◌∷◌, map, length, Some, None, Option, sym, refl, ap, inl, inr, arith}
use lib.ListN.{length-map}
use Rattle.std.specs.List.{slice_get}
use Rattle.std.specs.Option.{option_map, option_flatten}
use Rattle.events.specs.declared.name.Name.{Name}
use Rattle.events.specs.Parts.{StoredEvent}
use Rattle.events.specs.WellFormed.{WellFormed}
use Rattle.stores.specs.Questions.{name_at, parents_at, parent_at}
use Rattle.stores.specs.Together.{some_is, none_some}
use Rattle.fugue.specs.Names.{◌∈◌}
use Rattle.archive.specs.Times.{times_named}
use Rattle.archive.proofs.Counting.{fewer_names, named_in}
use Rattle.std.proofs.lemmas.Option.{slice_get_within}

pub event_with : {X : Type 0} (f : StoredEvent → X) (o : Option StoredEvent) (x : X) → option_map f o ≡ Some x → (e : StoredEvent) × (o ≡ Some e) × (f e ≡ x)
event_with f None x h = absurd (none_some h)
event_with f (Some e) x h = (e, refl, some_is h)

pub nth_some : {X : Type 0} (xs : List X) (n : ℕ) → n < length xs → (x : X) × (slice_get xs n ≡ Some x)
nth_some [] n h = absurd (omega arith)
nth_some (y ∷ xs) zero h = (y, refl)
nth_some (y ∷ xs) (suc n) h = nth_some xs n (omega arith)

pub event_with_parent : (o : Option StoredEvent) (k p : ℕ) → option_flatten (option_map (λ ps. slice_get ps k) (option_map (λ (e : StoredEvent). e.parents) o)) ≡ Some p → (e : StoredEvent) × (o ≡ Some e) × (slice_get e.parents k ≡ Some p)
event_with_parent None k p h = absurd (none_some h)
event_with_parent (Some e) k p h = (e, refl, h)

pub parent_few : (es : List StoredEvent) → WellFormed es → (w k p : ℕ) → parent_at es w k ≡ Some p → k < 4
parent_few es f w k p h =
    let r = event_with_parent (slice_get es w) k p h in
    let l = slice_get_within r.0.parents k p r.2 in
    let m = (f.parents w r.0 r.1).few in
    omega (arith, l, m)

-- parent k of an event is parent k of the list of its parents
pub parent_in : (es : List StoredEvent) (e : ℕ) (ps : List ℕ) → Some ps ≡ parents_at es e → (k : ℕ) → parent_at es e k ≡ slice_get ps k
parent_in es e ps h k = ap (λ (o : Option (List ℕ)). option_flatten (option_map (λ qs. slice_get qs k) o)) (sym h)

pub name_of : (es : List StoredEvent) (w : ℕ) → w < length es → (x : Name) × (name_at es w ≡ Some x)
name_of es w h = let r = nth_some es w h in (r.0.name, ap (option_map (λ (e : StoredEvent). e.name)) r.1)

name_in : (es : List StoredEvent) (w : ℕ) (x : Name) → name_at es w ≡ Some x → x ∈ map (λ (e : StoredEvent). e.name) es
name_in [] w x h = absurd (none_some h)
name_in (e ∷ es) zero x h = inl (sym (some_is h))
name_in (e ∷ es) (suc w) x h = inr (name_in es w x h)

-- names of events, none twice, are no more than the events
pub names_few : (es : List StoredEvent) (xs : List Name) → ((x : Name) → times_named xs x ≤ 1) → ((x : Name) → 1 ≤ times_named xs x → (w : ℕ) × (name_at es w ≡ Some x)) → length xs ≤ length es
names_few es xs once held =
    let few = fewer_names xs (map (λ (e : StoredEvent). e.name) es) (λ x. go x (times_named xs x) refl) in
    let l = length-map es (λ (e : StoredEvent). e.name) in
    omega (arith, few, l)
  where
    go : (x : Name) (t : ℕ) → times_named xs x ≡ t → times_named xs x ≤ times_named (map (λ (e : StoredEvent). e.name) es) x
    go x zero e = omega arith
    go x (suc t) e =
        let r = held x (omega arith) in
        let i = named_in (map (λ (e : StoredEvent). e.name) es) x (name_in es r.0 x r.1) in
        let o = once x in
        omega (arith, i, o)
