-- Marks: in which of two versions an event is known to be. The first has 1, the second 2, both any other but 0.
--     Marked     a mark says that the event is in a version, told by the mark of the other alone
--     number_of  the number of a mark in a cell of a work list
--     told       the mark that the number in a cell tells
--     join       the mark of what two marks say
--     one_sided      1 for a mark of one version alone, else 0
--     mark_in     the mark of an event in a work list
--     Spread     marks that were joined to those of some events
use Rattle.std.specs.Prelude.{◌≡◌, ℕ, zero, suc, ◌+◌, ◌*◌, ◌<◌, cond, Some, None, Option, ◌&&◌, ◌||◌, ◌⊎◌, List, ◌==◌, ◌≢◌, nat_lt, slice_index}
use Rattle.versions.specs.declared.marks.Mark.{Mark}
use Rattle.versions.specs.declared.marks.Mark.TheVariants.{First, Second, Both}

abbrev pub number_of : Mark → ℕ
number_of First = 1
number_of Second = 2
number_of Both = 3

abbrev pub told : ℕ → Option Mark
told m = cond (m == 0) None (cond (m == 1) (Some First) (cond (m == 2) (Some Second) (Some Both)))

-- neither no mark nor that of the other version alone
abbrev pub Marked : ℕ → ℕ → Type 0
Marked other m = (m ≢ 0) × (m ≢ other)

abbrev pub join : ℕ → ℕ → ℕ
join a m = cond (a == 0) m (cond (a == m) a 3)

abbrev pub one_sided : ℕ → ℕ
one_sided m = cond (m == 1 || m == 2) 1 0

-- The work list has four areas of `room` cells: the queue, for each event its place among the events seen, those
-- events one after another, and for each event its mark. Only a place below n that leads back to the event counts,
-- so that no cell needs a first value.
abbrev pub mark_in : List ℕ → ℕ → ℕ → ℕ → ℕ
mark_in w room n x = cond (nat_lt x room && (nat_lt (slice_index w (room + x)) n && slice_index w (2 * room + slice_index w (room + x)) == x)) (slice_index w (3 * room + x)) 0

-- how many of the events below k have a mark
abbrev pub marked_below : (ℕ → ℕ) → ℕ → ℕ
marked_below marks zero = 0
marked_below marks (suc k) = cond (marks k == 0) 0 1 + marked_below marks k

-- the events of a set were marked m besides, for both versions; the others have their marks still
pub record Spread (Set : ℕ → Type 0) (m : ℕ) (old new : ℕ → ℕ) : Type 0 where
  pub keeps : (other x : ℕ) → other < 3 → Marked other (old x) → Marked other (new x)
  pub takes : (other x : ℕ) → other < 3 → Set x → Marked other m → Marked other (new x)
  pub from : (other x : ℕ) → other < 3 → Marked other (new x) → Marked other (old x) ⊎ (Set x × Marked other m)
  pub others : (x : ℕ) → (Set x → ⊥) → new x ≡ old x
