-- The marks after writes to the cells of a work list.
use Rattle.std.proofs.Common.{◌≡◌, ℕ, ◌+◌, ◌*◌, ◌<◌, ◌≤◌, Bool, true, false, cond, ◌&&◌, eqb, ltb, List, get_or, inl, inr, arith}
use Rattle.std.proofs.lemmas.Bool.{cases_lt, cases_Bool, lt-ltb, le-ltb, and_left, and_right}
use Rattle.std.proofs.lemmas.Bool.Decides.{nat_tests}
use Rattle.versions.specs.Marks.{mark_in}

-- whether the place of an event leads back to it
abbrev pub leads : List ℕ → ℕ → ℕ → ℕ → Bool
leads w room n x = ltb (get_or w (room + x) 0) n && eqb (get_or w (2 * room + get_or w (room + x) 0) 0) x

pub mark_in_lem : (w : List ℕ) (room n x : ℕ) → x < room → leads w room n x ≡ true → mark_in w room n x ≡ get_or w (3 * room + x) 0
mark_in_lem w room n x l h = rw (lt-ltb x room l, h)

pub mark_out : (w : List ℕ) (room n x : ℕ) → leads w room n x ≡ false → mark_in w room n x ≡ 0
mark_out w room n x h = rw (and_right (ltb x room) _ h)

pub mark_past : (w : List ℕ) (room n x : ℕ) → room ≤ x → mark_in w room n x ≡ 0
mark_past w room n x h = rw (and_left (ltb x room) (leads w room n x) (le-ltb x room h))

pub mark_same : (w v : List ℕ) (room m n x : ℕ) → leads v room m x ≡ leads w room n x → get_or v (3 * room + x) 0 ≡ get_or w (3 * room + x) 0 → mark_in v room m x ≡ mark_in w room n x
mark_same w v room m n x h g = rw (h, g)

pub mark_none : (w : List ℕ) (room x : ℕ) → mark_in w room 0 x ≡ 0
mark_none w room x = grind (arith, nat_tests)

-- an event with a mark has it in its cell
pub mark_some : (w : List ℕ) (room n x : ℕ) → (mark_in w room n x ≡ 0 → ⊥) → (x < room) × (leads w room n x ≡ true)
mark_some w room n x some = elim (cases_lt x room) [
  | inl l ↦ (l, elim (cases_Bool (leads w room n x)) [ inl h ↦ h | inr h ↦ absurd (some (mark_out w room n x h)) ])
  | inr l ↦ absurd (some (mark_past w room n x l))
]

-- the cells behind the queue's area have all that the marks are told from
pub mark_kept : (w v : List ℕ) (room n x : ℕ) → ((k : ℕ) → room ≤ k → get_or v k 0 ≡ get_or w k 0) → mark_in v room n x ≡ mark_in w room n x
mark_kept w v room n x same =
    grind (arith, nat_tests, same (room + x), same (2 * room + get_or w (room + x) 0), same (3 * room + x))

-- an event with a mark gets another
pub mark_changed : (w v : List ℕ) (room n e m : ℕ) → n ≤ room → (mark_in w room n e ≡ 0 → ⊥) → get_or v (3 * room + e) 0 ≡ m → ((k : ℕ) → (k ≡ 3 * room + e → ⊥) → get_or v k 0 ≡ get_or w k 0) → (x : ℕ) → mark_in v room n x ≡ cond (eqb x e) m (mark_in w room n x)
mark_changed w v room n e m few some put same x =
    grind (arith, nat_tests, same (room + x), same (3 * room + x), same (2 * room + get_or v (room + x) 0))

-- an event that has no mark gets one: its place, the event at that place, and its mark are written
pub mark_new : (w v : List ℕ) (room n e m : ℕ) → e < room → n < room → get_or v (3 * room + e) 0 ≡ m → get_or v (room + e) 0 ≡ n → get_or v (2 * room + n) 0 ≡ e → ((k : ℕ) → room ≤ k → (k ≡ 3 * room + e → ⊥) → (k ≡ room + e → ⊥) → (k ≡ 2 * room + n → ⊥) → get_or v k 0 ≡ get_or w k 0) → (x : ℕ) → mark_in v room (n + 1) x ≡ cond (eqb x e) m (mark_in w room n x)
mark_new w v room n e m in' few put place back same x =
    grind (arith, nat_tests, same (room + x), same (3 * room + x), same (2 * room + get_or v (room + x) 0))
