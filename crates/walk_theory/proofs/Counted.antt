-- How many characters of the text are in front of a node, counted in the list.
use Rattle.std.proofs.Common.{◌≡◌, suc, Bool, true, false, cond, not, ◌||◌, List, [], ◌∷◌, ◌++◌, length, sym, refl, ap, ◌∙◌, inl, inr, arith}
use Rattle.std.specs.List.{AllByRecursion}
use Rattle.std.proofs.lemmas.Bool.{cases_Bool}
use Rattle.events.specs.declared.name.Name.{Name}
use Rattle.events.specs.Parts.{NamedEvent}
use Rattle.fugue.specs.declared.edit.Edit.TheVariants.{Insert, Delete, Nothing}
use Rattle.fugue.specs.Names.{same, has, Ordered}
use Rattle.fugue.specs.Logs.{NewestFirst, Distinct}
use Rattle.fugue.specs.Tree.{Node, Tree, sequence, only, node_names}
use Rattle.fugue.specs.Placements.{inserted, deleted, Placed, node_of, target_of, nodes, struck, visible, placements, placement_in, tree}
use Rattle.fugue.specs.Edits.{in_front_of, edit_of, edit}
use Rattle.fugue.proofs.Names.{same_name}
use Rattle.fugue.proofs.Lists.{all_members, kept_like}
use Rattle.fugue.proofs.Placed.{tree_step}
use Rattle.fugue.proofs.Edits.{struck_step, fresh_struck}
use Rattle.fugue.proofs.Typed.{front_of}
use Rattle.walk_theory.specs.Indexed.{Holds, unstruck}
use Rattle.walk_theory.proofs.Shown.{shows_the_text}

-- what is kept in front of a node that is kept
front_only : (keep : Name → Bool) (x : Name) → keep x ≡ true → (s : List Node) → in_front_of x (only keep s) ≡ only keep (in_front_of x s)
front_only keep x k [] = refl
front_only keep x k (n ∷ s) =
    let ih = front_only keep x k s in
    elim (cases_Bool (same n.name x)) [
      | inl e ↦ let q : keep n.name ≡ true = ap keep (same_name n.name x e) ∙ k in rw (e, q, e)
      | inr e ↦ elim (cases_Bool (keep n.name)) [
        | inl f ↦ rw (e, f, e) (ap (λ l. n ∷ l) ih)
        | inr f ↦ rw (e, f) ih
      ]
    ]

front_long : (x : Name) (a b : List Node) → node_names a ≡ node_names b → length (in_front_of x a) ≡ length (in_front_of x b)
front_long x [] [] e = refl
front_long x [] (n ∷ b) e = absurd (grind arith)
front_long x (m ∷ a) [] e = absurd (grind arith)
front_long x (m ∷ a) (n ∷ b) e =
    let f : m.name ≡ n.name = cc in
    let g : node_names a ≡ node_names b = cc in
    let ih = front_long x a b g in
    elim (cases_Bool (same n.name x)) [ inl q ↦ rw (f, q) | inr q ↦ rw (f, q) (ap suc ih) ]

-- lists that keep the same names keep as many in front of one of them
pub counted : (keep : Name → Bool) (x : Name) → keep x ≡ true → (s l : List Node) → node_names (only keep s) ≡ node_names (only keep l)
    → length (only keep (in_front_of x s)) ≡ length (only keep (in_front_of x l))
counted keep x k s l e = ap length (sym (front_only keep x k s)) ∙ front_long x (only keep s) (only keep l) e ∙ ap length (front_only keep x k l)

module _ (before : Name → Name → Bool) (o : Ordered before) (log closed : NewestFirst) (small : Tree) where
  abbrev keep : Name → Bool
  keep = unstruck before log

  visible_is : (ps : List Placed) → visible before ps ≡ only (λ y. not (struck ps y)) (sequence before (nodes ps))
  unfolding visible
  visible_is ps = refl

  tree_is : (log : NewestFirst) → nodes (placements before log) ≡ tree before log
  unfolding tree
  tree_is log = refl

  -- the list has the names of the text, in order
  text_names : Distinct log → (later listed : List Node) → Holds before log closed small later listed
      → node_names (only keep (sequence before (tree before log))) ≡ node_names (only keep listed)
  text_names u later listed h =
      ap node_names (ap (λ t. only keep (sequence before t)) (sym (tree_is log)) ∙ sym (visible_is (placements before log)))
      ∙ shows_the_text before o log closed u small later listed h

  module _ (e : NamedEvent) (u : Distinct (e ∷ log)) where
    edit_is : edit before log e ≡ edit_of before (placements before log) (placement_in before log e)
    unfolding edit
    edit_is = refl

    module _ (n : Node) (placed : placement_in before log e ≡ inserted n) where
      keeps_as_before : (s : List Node) → only (unstruck before (e ∷ log)) s ≡ only keep s
      keeps_as_before s =
          kept_like _ _ s (all_members _ s (λ m _. ap not (struck_step before e log m.name ∙ ap (λ p. has (target_of p) m.name || struck (placements before log) m.name) placed)))

      new_tree : nodes (placements before (e ∷ log)) ≡ n ∷ tree before log
      new_tree = tree_is (e ∷ log) ∙ tree_step before e log ∙ ap (λ p. node_of p ++ tree before log) placed

      new_names : (later listed : List Node) → Holds before (e ∷ log) closed small later listed
          → node_names (only keep (sequence before (n ∷ tree before log))) ≡ node_names (only keep listed)
      new_names later listed h =
          ap node_names (ap (λ t. only keep (sequence before t)) (sym new_tree) ∙ sym (keeps_as_before (sequence before (nodes (placements before (e ∷ log))))) ∙ sym (visible_is (placements before (e ∷ log))))
          ∙ shows_the_text before o (e ∷ log) closed u small later listed h
          ∙ ap node_names (keeps_as_before listed)

      -- an insert counts what is in the text in front of its place
      pub insert_edit : n.name ≡ e.name → (later a b : List Node) (m : Node) → m.name ≡ e.name → Holds before (e ∷ log) closed small later (a ++ m ∷ b)
          → AllByRecursion (λ k. same k.name m.name ≡ false) a → edit before log e ≡ Insert (length (only keep a))
      insert_edit q later a b m r h f =
          let k : keep n.name ≡ true = ap not (ap (struck (placements before log)) q ∙ fresh_struck before e log u.0) in
          let c = counted keep n.name k (sequence before (n ∷ tree before log)) (a ++ m ∷ b) (new_names later (a ++ m ∷ b) h) in
          edit_is ∙ ap (edit_of before (placements before log)) placed
          ∙ ap Insert (ap (λ t. length (only keep (in_front_of n.name (sequence before (n ∷ t))))) (tree_is log) ∙ c
          ∙ ap (λ l. length (only keep l)) (ap (λ x. in_front_of x (a ++ m ∷ b)) (q ∙ sym r) ∙ front_of a b m f))

    -- a delete counts what is in the text in front of its target
    pub delete_edit : (x : Name) → placement_in before log e ≡ deleted x → (later listed : List Node) → Holds before log closed small later listed
        → edit before log e ≡ cond (struck (placements before log) x) Nothing (Delete (length (only keep (in_front_of x listed))))
    delete_edit x placed later listed h =
        edit_is ∙ ap (edit_of before (placements before log)) placed
        ∙ elim (cases_Bool (struck (placements before log) x)) [
          | inl k ↦ rw k
          | inr k ↦
              let c = counted keep x (ap not k) (sequence before (tree before log)) listed (text_names u.1 later listed h) in
              rw k (ap Delete (ap (λ t. length (only keep (in_front_of x (sequence before t)))) (tree_is log) ∙ c))
        ]
