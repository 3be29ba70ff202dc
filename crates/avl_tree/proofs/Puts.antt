-- A put into a tree is a put into its in-order lists.
use Rattle.std.proofs.Common.{◌≡◌, ℕ, suc, ◌+◌, ◌-◌, ◌<◌, ◌≤◌, Bool, true, false, cond, leb, List, [], ◌∷◌, ◌++◌, length, sym, refl, ap, ◌∙◌, arith, leb-false, leb-true}
use Rattle.std.proofs.lemmas.List.Edits.{insert-append_left, insert-append_right}
use Rattle.std.specs.List.{insert}
use Rattle.indexes.specs.declared.entry.Entry.{Entry}
use Rattle.avl_tree.specs.Tree.{Tree, leaf, node, entries, numbers, size}
use Rattle.avl_tree.specs.Turns.{balanced, put}
use Rattle.avl_tree.proofs.Keeps.{balanced_lists}
use Rattle.avl_tree.proofs.Sizes.{size_entries, size_numbers}

pub insert_behind : {X : Type 0} (xs : List X) (z : X) (ys : List X) (i : ℕ) (x : X) → length xs < i → insert (xs ++ z ∷ ys) i x ≡ xs ++ z ∷ insert ys (i - length xs - 1) x
insert_behind xs z ys i x past =
    let e : i - length xs ≡ suc (i - length xs - 1) = omega arith in
    insert-append_right xs (z ∷ ys) (length xs) i x refl (omega arith) ∙ ap (λ k. xs ++ insert (z ∷ ys) k x) e

pub record Inserts (t : Tree) (place i : ℕ) (x : Entry) : Type 0 where
  pub listed : numbers (put t place i x) ≡ insert (numbers t) place i
  pub written : entries (put t place i x) ≡ insert (entries t) place x
  pub sized : size (put t place i x) ≡ size t + 1

-- to the left of the root, and to its right
left_of : (l : Tree) (j : ℕ) (e : Entry) (r : Tree) (place i : ℕ) (x : Entry) → place ≤ size l → Inserts l place i x → (numbers (balanced (put l place i x) j e r) ≡ insert (numbers l ++ j ∷ numbers r) place i) × (entries (balanced (put l place i x) j e r) ≡ insert (entries l ++ e ∷ entries r) place x) × (size (balanced (put l place i x) j e r) ≡ size l + size r + 1 + 1)
left_of l j e r place i x low k =
    let b = balanced_lists (put l place i x) j e r in
    (b.listed ∙ ap (λ is. is ++ j ∷ numbers r) k.listed ∙ sym (insert-append_left (numbers l) (j ∷ numbers r) place i (omega (arith, size_numbers l))), b.written ∙ ap (λ es. es ++ e ∷ entries r) k.written ∙ sym (insert-append_left (entries l) (e ∷ entries r) place x (omega (arith, size_entries l))), omega (arith, b.sized, k.sized))

right_of : (l : Tree) (j : ℕ) (e : Entry) (r : Tree) (place i : ℕ) (x : Entry) → size l < place → Inserts r (place - size l - 1) i x → (numbers (balanced l j e (put r (place - size l - 1) i x)) ≡ insert (numbers l ++ j ∷ numbers r) place i) × (entries (balanced l j e (put r (place - size l - 1) i x)) ≡ insert (entries l ++ e ∷ entries r) place x) × (size (balanced l j e (put r (place - size l - 1) i x)) ≡ size l + size r + 1 + 1)
right_of l j e r place i x high k =
    let q = place - size l - 1 in
    let b = balanced_lists l j e (put r q i x) in
    let n : q ≡ place - length (numbers l) - 1 = ap (λ m. place - m - 1) (size_numbers l) in
    let m : q ≡ place - length (entries l) - 1 = ap (λ m. place - m - 1) (size_entries l) in
    (b.listed ∙ ap (λ is. numbers l ++ j ∷ is) (k.listed ∙ ap (λ p. insert (numbers r) p i) n) ∙ sym (insert_behind (numbers l) j (numbers r) place i (omega (arith, size_numbers l))), b.written ∙ ap (λ es. entries l ++ e ∷ es) (k.written ∙ ap (λ p. insert (entries r) p x) m) ∙ sym (insert_behind (entries l) e (entries r) place x (omega (arith, size_entries l))), omega (arith, b.sized, k.sized))

either : (b : Bool) (t u : Tree) (is : List ℕ) (es : List Entry) (n : ℕ) → (b ≡ true → (numbers t ≡ is) × (entries t ≡ es) × (size t ≡ n)) → (b ≡ false → (numbers u ≡ is) × (entries u ≡ es) × (size u ≡ n)) → (numbers (cond b t u) ≡ is) × (entries (cond b t u) ≡ es) × (size (cond b t u) ≡ n)
either true t u is es n x y = x refl
either false t u is es n x y = y refl

pub inserts : (t : Tree) (place i : ℕ) (x : Entry) → place ≤ size t → Inserts t place i x
inserts leaf place i x within =
    let z : 0 ≡ place = omega arith in
    record { listed = ap (λ p. insert [] p i) z; written = ap (λ p. insert [] p x) z; sized = refl }
inserts (node l j e r) place i x within =
    let c = either (leb place (size l)) (balanced (put l place i x) j e r) (balanced l j e (put r (place - size l - 1) i x)) (insert (numbers l ++ j ∷ numbers r) place i) (insert (entries l ++ e ∷ entries r) place x) (size l + size r + 1 + 1)
    (λ is. left_of l j e r place i x (leb-true place (size l) is) (inserts l place i x (leb-true place (size l) is)))
    (λ is. let high : size l < place = leb-false place (size l) is in right_of l j e r place i x high (inserts r (place - size l - 1) i x (omega (arith, high)))) in
    record { listed = c.0; written = c.1; sized = c.2 }
