-- The directory: each entry's character leads to its node, so no character stands twice, and a
-- character whose directory entry is not its node is not listed.
use Rattle.std.proofs.Common.{◌≡◌, ℕ, ◌+◌, true, eqb, ◌⊎◌, List, [], ◌∷◌, ◌++◌, map, Some, Option, sym, refl, ap, ◌∙◌, subst, inl, inr, eqb-true}
use Rattle.std.specs.Option.{option_map}
use Rattle.std.proofs.lemmas.Option.{slice_get-map}
use Rattle.std.specs.List.{AllByRecursion, slice_get}
use Rattle.std.proofs.ByRecursion.{All-append}
use Rattle.std.proofs.lemmas.List.{map-append}
use Rattle.std.proofs.lemmas.Bool.{or_cases, or_left, or_right}
use Rattle.indexes.specs.Laws.{Distinct, Away, Apart}
use Rattle.indexes.specs.Questions.{characters}
use Rattle.indexes.specs.declared.entry.Entry.{Entry}
use Rattle.indexes.proofs.Apart.{distinct}
use Rattle.avl_tree.specs.declared.node.Node.{Node}
use Rattle.avl_tree.specs.Climb.{Found}
use Rattle.avl_tree.specs.Nodes.{cell, Holds, held_entries}
use Rattle.avl_tree.specs.Shape.{member, Named}
use Rattle.avl_tree.specs.Tree.{Tree, leaf, node, entries, numbers, size}

pub nth_map : {X Y : Type 0} (f : X → Y) (xs : List X) (i : ℕ) (x : X) → slice_get xs i ≡ Some x → slice_get (map f xs) i ≡ Some (f x)
nth_map f xs i x is = slice_get-map f xs i ∙ ap (option_map f) is

-- the character of a node
pub name_at_lem : (ns : List Node) (i : ℕ) (n : Node) → slice_get ns i ≡ Some n → slice_get (characters (held_entries ns)) i ≡ Some n.entry.character
name_at_lem ns i n is = nth_map (λ (e : Entry). e.character) (held_entries ns) i n.entry (nth_map (λ (m : Node). m.entry) ns i n is)

entry_names : (ns : List Node) (dir : List ℕ) (p : Option ℕ) (t : Tree) → Holds ns p t → Named ns dir → map (slice_get dir) (characters (entries t)) ≡ map Some (numbers t)
entry_names ns dir p leaf h named = refl
entry_names ns dir p (node l i e r) h named =
    let a = entry_names ns dir (Some i) l h.1 named in
    let b = entry_names ns dir (Some i) r h.2 named in
    let here = named i e.character (name_at_lem ns i (cell p l e r) h.0) in
    ap (map (slice_get dir)) (map-append (λ (x : Entry). x.character) (entries l) (e ∷ entries r)) ∙ map-append (slice_get dir) (characters (entries l)) (e.character ∷ characters (entries r)) ∙ ap (λ xs. xs ++ slice_get dir e.character ∷ map (slice_get dir) (characters (entries r))) a ∙ ap (λ x. map Some (numbers l) ++ x ∷ map (slice_get dir) (characters (entries r))) here ∙ ap (λ xs. map Some (numbers l) ++ Some i ∷ xs) b ∙ sym (map-append Some (numbers l) (i ∷ numbers r))

away_by : (f : ℕ → Option ℕ) (x y : ℕ) (xs ys : List ℕ) → map f xs ≡ map Some ys → f x ≡ Some y → Away y ys → Away x xs
away_by f x y [] ys e is off = tt
away_by f x y (z ∷ xs) [] e is off = cc
away_by f x y (z ∷ xs) (w ∷ ys) e is off =
    let head : f z ≡ Some w = cc in
    let tail : map f xs ≡ map Some ys = cc in
    ((λ same. off.0 (let fz = ap f same in let v : Some w ≡ Some y = sym head ∙ fz ∙ is in let u : w ≡ y = cc in u)), away_by f x y xs ys tail is off.1)

apart_by : (f : ℕ → Option ℕ) (xs ys : List ℕ) → map f xs ≡ map Some ys → Apart ys → Apart xs
apart_by f [] ys e a = tt
apart_by f (x ∷ xs) [] e a = cc
apart_by f (x ∷ xs) (y ∷ ys) e a =
    let head : f x ≡ Some y = cc in
    let tail : map f xs ≡ map Some ys = cc in
    (away_by f x y xs ys tail head a.0, apart_by f xs ys tail a.1)

pub names_distinct : (ns : List Node) (dir : List ℕ) (p : Option ℕ) (t : Tree) → Holds ns p t → Named ns dir → Apart (numbers t) → Distinct (characters (entries t))
names_distinct ns dir p t h named a =
    distinct (characters (entries t)) (apart_by (slice_get dir) (characters (entries t)) (numbers t) (entry_names ns dir p t h named) a)

-- what holds of the entry of every node holds of every entry
all_entries : (ns : List Node) (p : Option ℕ) (t : Tree) (P : ℕ → Type 0) → Holds ns p t → ((i : ℕ) (n : Node) → slice_get ns i ≡ Some n → P n.entry.character) → AllByRecursion P (characters (entries t))
all_entries ns p leaf P h each = tt
all_entries ns p (node l i e r) P h each =
    subst (AllByRecursion P) (sym (map-append (λ (x : Entry). x.character) (entries l) (e ∷ entries r)))
    (All-append P (characters (entries l)) (e.character ∷ characters (entries r)) (all_entries ns (Some i) l P h.1 each) (each i (cell p l e r) h.0, all_entries ns (Some i) r P h.2 each))

-- a character that the directory leads elsewhere
pub unlisted : (ns : List Node) (dir : List ℕ) (p : Option ℕ) (t : Tree) (c k : ℕ) → Holds ns p t → Named ns dir → slice_get dir c ≡ Some k → ((n : Node) → slice_get ns k ≡ Some n → n.entry.character ≡ c → ⊥) → Away c (characters (entries t))
unlisted ns dir p t c k h named is other =
    all_entries ns p t (λ d. d ≡ c → ⊥) h
    (λ i n at same.
    let leads = named i n.entry.character (name_at_lem ns i n at) in
    let both : Some i ≡ Some k = sym leads ∙ ap (slice_get dir) same ∙ is in
    let e : i ≡ k = cc in
    other n (subst (λ m. slice_get ns m ≡ Some n) e at) same)

-- a node of the tree has its subtree
pub spot : (t : Tree) (k : ℕ) → member k (numbers t) ≡ true → (a : Tree) × (x : Entry) × (b : Tree) × (o : ℕ) × Found t (node a k x b) o
spot leaf k is = cc
spot (node l j e r) k is =
    elim (split (numbers l) (j ∷ numbers r) is) [
      | inl w ↦ let s = spot l k w in (s.0, s.1, s.2, s.3, inr (inl s.4))
      | inr w ↦
          elim (or_cases (eqb j k) (member k (numbers r)) w) [
            | inl here ↦ (l, e, r, 0, inl (ap (λ m. node l m e r) (sym (eqb-true j k here)), refl))
            | inr v ↦ let s = spot r k v in (s.0, s.1, s.2, size l + 1 + s.3, inr (inr (s.3, refl, s.4)))
          ]
    ]
  where
    split : (xs ys : List ℕ) → member k (xs ++ ys) ≡ true → (member k xs ≡ true) ⊎ (member k ys ≡ true)
    split [] ys e = inr e
    split (x ∷ xs) ys e =
        elim (or_cases (eqb x k) (member k (xs ++ ys)) e) [
          | inl here ↦ inl (or_left (eqb x k) (member k xs) here)
          | inr v ↦ elim (split xs ys v) [ inl w ↦ inl (or_right (eqb x k) (member k xs) w) | inr w ↦ inr w ]
        ]
