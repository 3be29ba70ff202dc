-- Where a search starts: nothing is marked, then the heads are.
use Rattle.std.proofs.Common.{◌≡◌, ℕ, ◌+◌, ◌-◌, ◌*◌, ◌≤◌, List, length, get_or, drop, sym, refl, ap, ◌∙◌, subst, inl, inr, arith}
use Rattle.std.proofs.lemmas.List.{drop-drop}
use Rattle.std.proofs.lemmas.Bool.{eq-eqb}
use Rattle.events.specs.Parts.{StoredEvent}
use Rattle.versions.specs.declared.counters.Counters.{Counters}
use Rattle.versions.specs.Versions.{Head, head, Enumerates}
use Rattle.versions.specs.Marks.{Marked}
use Rattle.versions.specs.Searches.{marks, Listed, Queued, Noted, Started, Stage, Knows}
use Rattle.versions.specs.Difference.{Known}
use Rattle.versions.proofs.Cells.{mark_none}
use Rattle.versions.proofs.Counts.{marked_none}

abbrev pub bare : ℕ → Counters
bare room = record { room = room; seen = 0; queued = 0; pending = 0; first = 0; second = 0 }

pub bare_listed : (w : List ℕ) (room : ℕ) → 4 * room ≤ length w → room ≤ 65536 → Listed w (bare room)
bare_listed w room size small = record {
  size = size;
  small = small;
  seen = sym (marked_none (marks w (bare room)) (mark_none w room) room);
  within = omega arith;
}

pub bare_queued : (w : List ℕ) (room bound : ℕ) → Queued w (bare room) bound
bare_queued w room bound = record {
  heaped = λ k d pos below. absurd (omega arith);
  once = λ x. rw (eq-eqb (marks w (bare room) x) 0 (mark_none w room x));
  pending = refl;
}

pub started : (room : ℕ) (first second w v u : List ℕ) (r t : Counters) → Noted (Head first) 1 w (bare room) v r → Noted (Head second) 2 v r u t → Started room first second u t
started room first second w v u r t a b = record {
  listed = b.listed;
  fields = (b.room ∙ a.room, b.found.0 ∙ a.found.0, b.found.1 ∙ a.found.1);
  from_first = λ x h. elim (b.spread.from 2 x (omega arith) h) [
    | inl g ↦ elim (a.spread.from 2 x (omega arith) g) [ inl f ↦ absurd (f.0 (mark_none w room x)) | inr f ↦ f.0 ]
    | inr g ↦ absurd (g.1.1 refl)
  ];
  from_second = λ x h. elim (b.spread.from 1 x (omega arith) h) [
    | inl g ↦ elim (a.spread.from 1 x (omega arith) g) [ inl f ↦ absurd (f.0 (mark_none w room x)) | inr f ↦ absurd (f.1.1 refl) ]
    | inr g ↦ g.0
  ];
  of_first = λ x h. b.spread.keeps 2 x (omega arith) (a.spread.takes 2 x (omega arith) h ((λ z. omega arith), (λ z. omega arith)));
  of_second = λ x h. b.spread.takes 1 x (omega arith) h ((λ z. omega arith), (λ z. omega arith));
  queued = λ bound p q. b.queued bound q (a.queued bound p (bare_queued w room bound));
}

knows : (es : List StoredEvent) (heads : List ℕ) (other : ℕ) (m : ℕ → ℕ) → Known (length es) heads → ((x : ℕ) → Marked other (m x) → Head heads x) → ((x : ℕ) → Head heads x → Marked other (m x)) → Knows es heads other m (length es)
knows es heads other m known from of = record {
  sound = λ x h. head (from x h) (known x (from x h));
  starts = of;
  closed = λ y x up h p. absurd (omega (arith, known y (from y h)));
}

none_found : (n : ℕ) (at : ℕ → ℕ) (K : ℕ → Type 0) → n ≡ 0 → ((x : ℕ) → K x → ⊥) → Enumerates n at K
none_found n at K z not = record {
  falls = λ i j less below. absurd (omega arith);
  only = λ i below. absurd (omega arith);
  all = λ x h. absurd (not x h);
}

pub first_stage : (es : List StoredEvent) (room : ℕ) (first second w out : List ℕ) (s : Counters) → length es ≤ room → Known (length es) first → Known (length es) second → Started room first second w s → Stage es first second w out s (length es)
first_stage es room first second w out s held p q st =
    let f = st.fields in
    record {
      listed = st.listed;
      queued = st.queued (length es) p q;
      held = omega (arith, f.0);
      of_first = knows es first 2 (marks w s) p st.from_first st.of_first;
      of_second = knows es second 1 (marks w s) q st.from_second st.of_second;
      firsts = none_found s.first (λ i. get_or out i 0) (λ x. (marks w s x ≡ 1) × (length es ≤ x)) f.1
          (λ x h. omega (arith, h.1, p x (st.from_first x ((λ z. omega (arith, h.0)), (λ z. omega (arith, h.0))))));
      seconds = none_found s.second (λ i. get_or w (s.room - 1 - i) 0) (λ x. (marks w s x ≡ 2) × (length es ≤ x)) f.2
          (λ x h. omega (arith, h.1, q x (st.from_second x ((λ z. omega (arith, h.0)), (λ z. omega (arith, h.0))))));
      few = omega (arith, f.1, f.2);
      apart = omega (arith, f.1, f.2, st.listed.within);
    }

-- lists that agree from a place on agree from each later one
pub drop_further : (xs ys : List ℕ) (m n : ℕ) → m ≤ n → drop m xs ≡ drop m ys → drop n xs ≡ drop n ys
drop_further xs ys m n le same =
    let at : m + (n - m) ≡ n = omega arith in
    subst (λ k. drop k xs ≡ drop k ys) at (sym (drop-drop (n - m) m xs) ∙ ap (drop (n - m)) same ∙ drop-drop (n - m) m ys)
