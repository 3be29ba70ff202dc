-- Lists of numbers that have none in common.
use Rattle.std.proofs.Common.{◌≡◌, ℕ, List, [], ◌∷◌, ◌++◌, sym}
use Rattle.std.specs.List.{AllByRecursion}
use Rattle.std.proofs.ByRecursion.{All-append, All-weaker}
use Rattle.indexes.specs.Laws.{Away, Apart}

pub all_left : {X : Type 0} (P : X → Type 0) (xs ys : List X) → AllByRecursion P (xs ++ ys) → AllByRecursion P xs
all_left P [] ys a = tt
all_left P (x ∷ xs) ys a = (a.0, all_left P xs ys a.1)

pub all_right : {X : Type 0} (P : X → Type 0) (xs ys : List X) → AllByRecursion P (xs ++ ys) → AllByRecursion P ys
all_right P [] ys a = a
all_right P (x ∷ xs) ys a = all_right P xs ys a.1

pub all_any : {X : Type 0} (P : X → Type 0) → ((x : X) → P x) → (xs : List X) → AllByRecursion P xs
all_any P h [] = tt
all_any P h (x ∷ xs) = (h x, all_any P h xs)

-- no number of the one is in the other
abbrev pub Disjoint : List ℕ → List ℕ → Type 0
Disjoint xs ys = AllByRecursion (λ x. Away x ys) xs

pub apart_left : (xs ys : List ℕ) → Apart (xs ++ ys) → Apart xs
apart_left [] ys a = tt
apart_left (x ∷ xs) ys a = (all_left (λ d. d ≡ x → ⊥) xs ys a.0, apart_left xs ys a.1)

pub apart_right : (xs ys : List ℕ) → Apart (xs ++ ys) → Apart ys
apart_right [] ys a = a
apart_right (x ∷ xs) ys a = apart_right xs ys a.1

pub apart_across : (xs ys : List ℕ) → Apart (xs ++ ys) → Disjoint xs ys
apart_across [] ys a = tt
apart_across (x ∷ xs) ys a = (all_right (λ d. d ≡ x → ⊥) xs ys a.0, apart_across xs ys a.1)

pub all_both : {X : Type 0} (P Q : X → Type 0) (xs : List X) → AllByRecursion P xs → AllByRecursion Q xs → AllByRecursion (λ x. P x × Q x) xs
all_both P Q [] a b = tt
all_both P Q (x ∷ xs) a b = ((a.0, b.0), all_both P Q xs a.1 b.1)

pub disjoint_sym : (xs ys : List ℕ) → Disjoint xs ys → Disjoint ys xs
disjoint_sym [] ys d = all_any (λ y. Away y []) (λ _. tt) ys
disjoint_sym (x ∷ xs) ys d =
    let flipped = All-weaker (λ y. y ≡ x → ⊥) (λ y. x ≡ y → ⊥) (λ y h e. h (sym e)) ys d.0 in
    all_both (λ y. x ≡ y → ⊥) (λ y. Away y xs) ys flipped (disjoint_sym xs ys d.1)

-- two lists with one number between them
pub record Parts (xs : List ℕ) (j : ℕ) (ys : List ℕ) : Type 0 where
  pub first : Apart xs
  pub second : Apart ys
  pub off_first : Away j xs
  pub off_second : Away j ys
  pub across : Disjoint xs ys

pub parts : (xs : List ℕ) (j : ℕ) (ys : List ℕ) → Apart (xs ++ j ∷ ys) → Parts xs j ys
parts xs j ys a =
    let d = apart_across xs (j ∷ ys) a in
    let r = apart_right xs (j ∷ ys) a in
    record {
      first = apart_left xs (j ∷ ys) a;
      second = r.1;
      off_first = All-weaker (λ x. Away x (j ∷ ys)) (λ x. x ≡ j → ⊥) (λ x h e. h.0 (sym e)) xs d;
      off_second = r.0;
      across = All-weaker (λ x. Away x (j ∷ ys)) (λ x. Away x ys) (λ x h. h.1) xs d;
    }

-- and back
pub unparts : (xs : List ℕ) (j : ℕ) (ys : List ℕ) → Parts xs j ys → Apart (xs ++ j ∷ ys)
unparts [] j ys p = (p.off_second, p.second)
unparts (x ∷ xs) j ys p =
    (All-append (λ d. d ≡ x → ⊥) xs (j ∷ ys) p.first.0 (λ e. p.off_first.0 (sym e), p.across.0), unparts xs j ys record { first = p.first.1; second = p.second; off_first = p.off_first.1; off_second = p.off_second; across = p.across.1 })

-- k is in neither list, nor between them
pub away_parts : (k : ℕ) (xs : List ℕ) (j : ℕ) (ys : List ℕ) → Away k (xs ++ j ∷ ys) → Away k xs × (k ≡ j → ⊥) × Away k ys
away_parts k xs j ys a =
    let r = all_right (λ d. d ≡ k → ⊥) xs (j ∷ ys) a in
    (all_left (λ d. d ≡ k → ⊥) xs (j ∷ ys) a, (λ e. r.0 (sym e)), r.1)
