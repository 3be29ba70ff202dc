-- A left origin as the attachment at its right, and how it cuts a sequence.
--     Origin p q     q is the root, or the right of a node that passes
--     behind q s     the nodes of a sequence after the left origin
--     front q s      the nodes up to it
--     new_node       the node of a name, an attachment and a character
use Rattle.std.specs.Prelude.{◌≡◌, Bool, true, cond, List, [], ◌∷◌}
use Rattle.events.specs.declared.name.Name.{Name}
use Rattle.events.specs.declared.character.Character.{Character}
use Rattle.fugue.specs.Names.{same}
use Rattle.fugue.specs.Tree.{Attachment, root, left_of, right_of, Node}
use Rattle.fugue.specs.Placements.{after}

abbrev pub Origin : (Name → Bool) → Attachment → Type 0
Origin p root = Unit {0}
Origin p (left_of y) = ⊥
Origin p (right_of y) = p y ≡ true

abbrev pub behind : Attachment → List Node → List Node
behind root s = s
behind (left_of y) s = s
behind (right_of y) s = after y s

-- a list up to a node
abbrev pub up_to : Name → List Node → List Node
up_to x [] = []
up_to x (n ∷ ns) = cond (same n.name x) (n ∷ []) (n ∷ up_to x ns)

abbrev pub front : Attachment → List Node → List Node
front root s = []
front (left_of y) s = []
front (right_of y) s = up_to y s

abbrev pub new_node : Name → Attachment → Character → Node
new_node x q c = record { name = x; attachment = q; character = c }
