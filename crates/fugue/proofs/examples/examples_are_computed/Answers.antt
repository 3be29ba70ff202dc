use Rattle.std.proofs.Common.{◌≡◌, Bool, true, false, [], ◌∷◌, sym, refl, ap, ◌∙◌, inl, inr, arith}
use Rattle.std.proofs.lemmas.Bool.{both_ways}
use Rattle.events.specs.declared.name.Name.{Name}
use Rattle.events.specs.declared.deed.Deed.{Deed}
use Rattle.events.specs.Parts.{NamedEvent}
use Rattle.fugue.specs.Names.{◌∈◌, has}
use Rattle.fugue.specs.Logs.{NewestFirst, names, Behind, version}
use Rattle.fugue.specs.Archive.{Admits, Admissible}
use Rattle.fugue.specs.Placements.{Placement, inserted, deleted, beyond, nodes, targets, visible, attachment_after, placement, placements, seen, placement_in, characters, text_at, text}
use Rattle.fugue.proofs.Versions.{behind_irreflexive}
use Rattle.fugue.proofs.Archived.{admissible_distinct, admissible_held}
use Rattle.fugue.specs.Tree.{sorted, children, sequence_from, sequence}
use Rattle.fugue.specs.Edits.{edit}
use Rattle.fugue.proofs.examples.examples_are_computed.Goals as goal

inside : Placement → Bool
inside (inserted n) = true
inside (deleted x) = true
inside beyond = false

not_beyond : (m : Placement) → inside m ≡ true → m ≡ beyond → ⊥
unfolding inside
not_beyond m h q = both_ways (inside m) (ap inside q) h

-- an event without parents, and one with a single parent
module _ (before : Name → Name → Bool) (log : NewestFirst) (x : Name) (d : Deed) (fresh : has (names log) x ≡ false) where
  abbrev first : NamedEvent
  first = record { name = x; deed = d; parents = [] }

  none : inside (placement_in before log first) ≡ true → Admits before log first
  none h = record { fresh = fresh; held = tt; few = omega arith; once = tt; apart = λ p q i j b. i; inside = not_beyond (placement_in before log first) h }

  module _ (p : Name) (held : has (names log) p ≡ true) (a : Admissible before log) where
    abbrev next : NamedEvent
    next = record { name = x; deed = d; parents = p ∷ [] }

    only : (q : Name) → q ∈ (p ∷ []) → q ≡ p
    only q i = elim i [ inl e ↦ e | inr j ↦ elim j [ ] ]

    loop : (q r : Name) → q ∈ (p ∷ []) → r ∈ (p ∷ []) → Behind log q r → ⊥
    loop q r i j b = behind_irreflexive log (admissible_distinct before log a) (admissible_held before log a) q (same_end (only r j ∙ sym (only q i)) b)
      where
        same_end : {r q s : Name} → r ≡ s → Behind log q r → Behind log q s
        same_end e b = rw e at b

    one : inside (placement_in before log next) ≡ true → Admits before log next
    one h = record { fresh = fresh; held = (held, tt); few = omega arith; once = (tt, tt); apart = loop; inside = not_beyond (placement_in before log next) h }

admit : (before : Name → Name → Bool) (log : NewestFirst) (x : Name) (d : Deed) (p : Name) → has (names log) x ≡ false → has (names log) p ≡ true
    → inside (placement_in before log (record { name = x; deed = d; parents = p ∷ [] })) ≡ true → Admissible before log → Admissible before (record { name = x; deed = d; parents = p ∷ [] } ∷ log)
admit before log x d p f h i a = (one before log x d f p h a i, a)

pub returns : goal.returns
unfolding inside version sorted children sequence_from sequence nodes targets visible attachment_after placement placements seen placement_in characters text_at text edit
returns c = record {
  nothing = refl;
  one = refl;
  insert_at1 = refl;
  delete_at0 = refl;
  insert_at2 = refl;
  delete_at1 = refl;
  by_author = refl;
  by_number = refl;
  edits = (refl, refl);
  after_a = refl;
  other = refl;
  behind_struck = refl;
  moved_up = refl;
  struck_twice = refl;
  no_edit = refl;
  both_left = refl;
  before_x = refl;
  admissible =
      admit _ _ _ _ _ refl refl refl (admit _ _ _ _ _ refl refl refl (admit _ _ _ _ _ refl refl refl (admit _ _ _ _ _ refl refl refl (admit _ _ _ _ _ refl refl refl
      (none _ _ _ _ refl refl, tt)))));
}
