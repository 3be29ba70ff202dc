-- Rotations keep the in-order lists.
use Rattle.std.proofs.Common.{◌≡◌, ℕ, ◌+◌, Bool, true, false, cond, ltb, ◌∷◌, ◌++◌, sym, refl, ap, ◌∙◌, arith}
use Rattle.std.proofs.lemmas.List.{append_assoc}
use Rattle.indexes.specs.declared.entry.Entry.{Entry}
use Rattle.avl_tree.specs.Tree.{Tree, leaf, node, entries, numbers, size, height}
use Rattle.avl_tree.specs.Turns.{turn_right, turn_left, raise_left, raise_right, balanced}

-- what a tree over two sides lists
pub record Lists (t : Tree) (l : Tree) (j : ℕ) (e : Entry) (r : Tree) : Type 0 where
  pub listed : numbers t ≡ numbers l ++ j ∷ numbers r
  pub written : entries t ≡ entries l ++ e ∷ entries r
  pub sized : size t ≡ size l + size r + 1

pub plain : (l : Tree) (j : ℕ) (e : Entry) (r : Tree) → Lists (node l j e r) l j e r
plain l j e r = record { listed = refl; written = refl; sized = refl }

pub turn_left_lists : (l : Tree) (j : ℕ) (e : Entry) (r : Tree) → Lists (turn_left l j e r) l j e r
turn_left_lists l j e leaf = plain l j e leaf
turn_left_lists l j e (node b k y c) =
    record {
      listed = append_assoc (numbers l) (j ∷ numbers b) (k ∷ numbers c);
      written = append_assoc (entries l) (e ∷ entries b) (y ∷ entries c);
      sized = omega arith;
    }

pub turn_right_lists : (l : Tree) (j : ℕ) (e : Entry) (r : Tree) → Lists (turn_right l j e r) l j e r
turn_right_lists leaf j e r = plain leaf j e r
turn_right_lists (node a i x b) j e r =
    record {
      listed = sym (append_assoc (numbers a) (i ∷ numbers b) (j ∷ numbers r));
      written = sym (append_assoc (entries a) (x ∷ entries b) (e ∷ entries r));
      sized = omega arith;
    }

pub either_lists : (b : Bool) (t u : Tree) (l : Tree) (j : ℕ) (e : Entry) (r : Tree) → Lists t l j e r → Lists u l j e r → Lists (cond b t u) l j e r
either_lists true t u l j e r x y = x
either_lists false t u l j e r x y = y

-- the same over a side that lists what a node lists
over_left : (t l m : Tree) (j : ℕ) (e : Entry) (r : Tree) → numbers m ≡ numbers l → entries m ≡ entries l → size m ≡ size l → Lists t m j e r → Lists t l j e r
over_left t l m j e r a b c k =
    record {
      listed = k.listed ∙ ap (λ is. is ++ j ∷ numbers r) a;
      written = k.written ∙ ap (λ es. es ++ e ∷ entries r) b;
      sized = omega (arith, k.sized, c);
    }

over_right : (t l : Tree) (j : ℕ) (e : Entry) (r m : Tree) → numbers m ≡ numbers r → entries m ≡ entries r → size m ≡ size r → Lists t l j e m → Lists t l j e r
over_right t l j e r m a b c k =
    record {
      listed = k.listed ∙ ap (λ is. numbers l ++ j ∷ is) a;
      written = k.written ∙ ap (λ es. entries l ++ e ∷ es) b;
      sized = omega (arith, k.sized, c);
    }

pub raise_left_lists : (l : Tree) (j : ℕ) (e : Entry) (r : Tree) → Lists (raise_left l j e r) l j e r
raise_left_lists leaf j e r = plain leaf j e r
raise_left_lists (node a i x b) j e r =
    let m = cond (ltb (height a) (height b)) (turn_left a i x b) (node a i x b) in
    let k = either_lists (ltb (height a) (height b)) (turn_left a i x b) (node a i x b) a i x b (turn_left_lists a i x b) (plain a i x b) in
    over_left (turn_right m j e r) (node a i x b) m j e r k.listed k.written k.sized (turn_right_lists m j e r)

pub raise_right_lists : (l : Tree) (j : ℕ) (e : Entry) (r : Tree) → Lists (raise_right l j e r) l j e r
raise_right_lists l j e leaf = plain l j e leaf
raise_right_lists l j e (node b k y c) =
    let m = cond (ltb (height c) (height b)) (turn_right b k y c) (node b k y c) in
    let s = either_lists (ltb (height c) (height b)) (turn_right b k y c) (node b k y c) b k y c (turn_right_lists b k y c) (plain b k y c) in
    over_right (turn_left l j e m) l j e (node b k y c) m s.listed s.written s.sized (turn_left_lists l j e m)

pub balanced_lists : (l : Tree) (j : ℕ) (e : Entry) (r : Tree) → Lists (balanced l j e r) l j e r
balanced_lists l j e r =
    either_lists (ltb (height r + 1) (height l)) (raise_left l j e r) (cond (ltb (height l + 1) (height r)) (raise_right l j e r) (node l j e r)) l j e r (raise_left_lists l j e r)
    (either_lists (ltb (height l + 1) (height r)) (raise_right l j e r) (node l j e r) l j e r (raise_right_lists l j e r) (plain l j e r))
