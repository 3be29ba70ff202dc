-- Names that agree in 44 bits are the same name.
use Rattle.std.proofs.Common.{◌≡◌, ℕ, zero, suc, ◌+◌, ◌-◌, ◌/◌, ◌%◌, ◌^◌, ◌<◌, eqb, ltb, sym, ap, ◌∙◌, subst, arith}
use Rattle.std.proofs.lemmas.Nat.{shr-shr, shr_below}
use Rattle.std.proofs.lemmas.Bool.Decides.{nat_tests}
use Rattle.std.proofs.lemmas.Bool.{lt-ltb, le-ltb, cond-true, cond-false}
use Rattle.events.specs.declared.name.Name.{Name}
use Rattle.events.specs.Same.{name_is}
use Rattle.name_index.specs.Walks.{bit_of, turn_of, Agree}

bit_up : (a i : ℕ) → bit_of (a / 2) i ≡ bit_of a (suc i)
bit_up a i =
    let z : 1 + i ≡ suc i = omega arith in
    ap (λ (n : ℕ). eqb (n % 2) 1) (shr-shr a 1 i ∙ ap (λ (n : ℕ). a / 2 ^ n) z)

low_same : (a b : ℕ) → eqb (a % 2) 1 ≡ eqb (b % 2) 1 → a % 2 ≡ b % 2
low_same a b e =
    let p : a % 2 < 2 = omega arith in
    let q : b % 2 < 2 = omega arith in
    grind (arith, nat_tests)

bit_low : (a : ℕ) → bit_of a 0 ≡ eqb (a % 2) 1
bit_low a = let z : a / 1 ≡ a = omega arith in ap (λ (n : ℕ). eqb (n % 2) 1) z

-- numbers of w bits that agree in each
bits_same : (w a b : ℕ) → a < 2 ^ w → b < 2 ^ w → ((i : ℕ) → i < w → bit_of a i ≡ bit_of b i) → a ≡ b
bits_same zero a b p q h = omega arith
bits_same (suc w) a b p q h =
    let z : suc w ≡ w + 1 = omega arith in
    let lift = λ (n : ℕ) (l : n < 2 ^ suc w). shr_below n w 1 (subst (λ (m : ℕ). n < 2 ^ m) z l) in
    let high : a / 2 ≡ b / 2 = bits_same w (a / 2) (b / 2) (lift a p) (lift b q) (λ i l. bit_up a i ∙ h (suc i) (omega arith) ∙ sym (bit_up b i)) in
    let low : a % 2 ≡ b % 2 = low_same a b (sym (bit_low a) ∙ h 0 (omega arith) ∙ bit_low b) in
    omega arith

turn_number : (x : Name) (i : ℕ) → i < 28 → turn_of x i ≡ bit_of x.number i
turn_number x i l = cond-true (ltb i 28) _ _ (lt-ltb i 28 l)

turn_author : (x : Name) (i : ℕ) → i < 16 → turn_of x (28 + i) ≡ bit_of x.author i
turn_author x i l =
    let z : (28 + i) - 28 ≡ i = omega arith in
    cond-false (ltb (28 + i) 28) _ _ (le-ltb (28 + i) 28 (omega arith))
    ∙ cond-true (ltb (28 + i) 44) _ _ (lt-ltb (28 + i) 44 (omega arith))
    ∙ ap (bit_of x.author) z

pub names_same : (x y : Name) → Agree x y 44 → x ≡ y
names_same x y h =
    name_is
    (bits_same 16 x.author y.author x.narrow y.narrow (λ i l. sym (turn_author x i l) ∙ h (28 + i) (omega arith) ∙ turn_author y i l))
    (bits_same 28 x.number y.number x.small y.small (λ i l. sym (turn_number x i l) ∙ h i (omega arith) ∙ turn_number y i l))
