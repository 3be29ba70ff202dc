-- Paths from the root to the nodes, and the order that they give.
use Rattle.std.specs.Prelude.{◌&&◌, ◌||◌, ◌∷◌, ◌++◌}
use Rattle.fugue.specs.Vocabulary.{Bool, true, false, cond, not, List, [], Name}
use Rattle.fugue.specs.Names.{same}
use Rattle.fugue.specs.Tree.{Attachment, root, left_of, right_of, Tree}

-- a path steps to a left child or to a right child, by its name, and then ends
pub data Step : Type 0 where
  left : Name → Step
  end : Step
  right : Name → Step

-- the steps to a node, by those to the node that it is attached to; the root's children are on its right
abbrev pub steps_to : (Name → List Step) → Attachment → Name → List Step
steps_to steps root x = right x ∷ []
steps_to steps (left_of y) x = steps y ++ left x ∷ []
steps_to steps (right_of y) x = steps y ++ right x ∷ []

-- the steps to a node of a grown tree
unfoldable pub steps : Tree → Name → List Step
steps [] x = []
steps (n ∷ older) x = cond (same n.name x) (steps_to (steps older) n.attachment x) (steps older x)

unfoldable pub path : Tree → Name → List Step
path t x = steps t x ++ end ∷ []

module _ (before : Name → Name → Bool) where
  -- left, then the end, then right; steps to one side go by sibling order
  abbrev pub step_before : Step → Step → Bool
  step_before (left a) (left b) = before a b
  step_before (left a) end = true
  step_before (left a) (right b) = true
  step_before end (left b) = false
  step_before end end = false
  step_before end (right b) = true
  step_before (right a) (left b) = false
  step_before (right a) end = false
  step_before (right a) (right b) = before a b

  -- two paths go by the first step at which they differ
  abbrev pub path_before : List Step → List Step → Bool
  path_before [] [] = false
  path_before [] (b ∷ q) = true
  path_before (a ∷ p) [] = false
  path_before (a ∷ p) (b ∷ q) = step_before a b || (not (step_before b a) && path_before p q)

  -- one node of a tree comes before another, by their names
  abbrev pub precedes : Tree → Name → Name → Bool
  precedes t x y = path_before (path t x) (path t y)
