-- What the writes to the work list leave in its four parts.
use Rattle.std.proofs.Common.{◌≡◌, ℕ, ◌+◌, ◌*◌, ◌<◌, ◌≤◌, List, length, get_or, take, set, sym, ap, ◌∙◌, inl, inr, arith, length-set}
use Rattle.std.proofs.lemmas.Grind.{get_or-set_at}
use Rattle.std.proofs.lemmas.List.{get_or-set_other, get_or-take, take-set-le}
use Rattle.std.proofs.lemmas.Bool.{cases_lt}
use Rattle.events.specs.Parts.{StoredEvent}
use Rattle.events.specs.WellFormed.{WellFormed}
use Rattle.archive.specs.Parts.{none, first_of}
use Rattle.archive.specs.Calls.{Cleared}
use Rattle.archive.proofs.Placing.{Hung}

-- two writes: to another cell, to the first, and to the second
module _ (cells : List ℕ) (a b u v : ℕ) where
  pub neither : (j : ℕ) → (j ≡ a → ⊥) → (j ≡ b → ⊥) → get_or (set (set cells a u) b v) j 0 ≡ get_or cells j 0
  neither j m n = get_or-set_other (set cells a u) b j v 0 n ∙ get_or-set_other cells a j u 0 m

  pub first_write : (j : ℕ) → j ≡ a → (j ≡ b → ⊥) → a < length cells → get_or (set (set cells a u) b v) j 0 ≡ u
  first_write j m n l = get_or-set_other (set cells a u) b j v 0 n ∙ get_or-set_at cells a j u 0 m l

  pub second_write : (j : ℕ) → j ≡ b → b < length cells → get_or (set (set cells a u) b v) j 0 ≡ v
  second_write j m l = get_or-set_at (set cells a u) b j v 0 m (let k = length-set cells a u in omega (arith, k, l))

  pub front_kept : (n : ℕ) → n ≤ a → n ≤ b → take n (set (set cells a u) b v) ≡ take n cells
  front_kept n m l = take-set-le n (set cells a u) b v l ∙ take-set-le n cells a u m

pub cleared_more : (cells : List ℕ) (room e : ℕ) → 4 * room ≤ length cells → e < room → Cleared cells room e → Cleared (set (set cells (room + e) none) (2 * room + e) none) room (e + 1)
cleared_more cells room e l m h j k = elim (cases_lt j e) [
  | inl i ↦
      let r = h j i in (
        neither cells (room + e) (2 * room + e) none none (room + j) (λ z. omega arith) (λ z. omega arith) ∙ r.0,
        neither cells (room + e) (2 * room + e) none none (2 * room + j) (λ z. omega arith) (λ z. omega arith) ∙ r.1,
      )
  | inr i ↦ (
    first_write cells (room + e) (2 * room + e) none none (room + j) (omega arith) (λ z. omega arith) (omega arith),
    second_write cells (room + e) (2 * room + e) none none (2 * room + j) (omega arith) (omega arith),
  )
]

-- the same front is the same cells there
pub front_cell : (cells cells' : List ℕ) (n i : ℕ) → take n cells' ≡ take n cells → i < n → get_or cells' i 0 ≡ get_or cells i 0
front_cell cells cells' n i e l = sym (get_or-take n cells' i 0 l) ∙ ap (λ xs. get_or xs i 0) e ∙ get_or-take n cells i 0 l

-- event e begins the line at p
pub hung_cells : (es : List StoredEvent) (wf : WellFormed es) (room r e p u : ℕ) (cells : List ℕ) → r ≡ room → u ≡ first_of room cells p
    → length es ≤ room → 4 * room ≤ length cells → e < length es → p < length es
    → Hung es wf room cells (set (set cells (3 * r + e) u) (2 * r + p) e) e p
hung_cells es wf room r e p u cells q f n l a b = record {
  numbers = λ v m. neither cells (3 * r + e) (2 * r + p) u e (room + v) (λ z. omega arith) (λ z. omega arith);
  first = second_write cells (3 * r + e) (2 * r + p) u e (2 * room + p) (omega arith) (omega arith);
  firsts = λ v i m. neither cells (3 * r + e) (2 * r + p) u e (2 * room + v) (λ z. omega arith) (λ z. i (omega arith));
  behind = first_write cells (3 * r + e) (2 * r + p) u e (3 * room + e) (omega arith) (λ z. omega arith) (omega arith) ∙ f;
  behinds = λ v i m. neither cells (3 * r + e) (2 * r + p) u e (3 * room + v) (λ z. i (omega arith)) (λ z. omega arith);
}
