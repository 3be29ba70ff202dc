-- The tree of names: what a walk for a name is, and what every index keeps.
--     turn_of  bit d of a name
--     link_at  the link of a node for a bit
--     place    the node at which the walk for a name stands after d steps
--     Sound    what holds of the nodes of every index
use Rattle.std.specs.Prelude.{◌≡◌, ℕ, zero, suc, ◌-◌, ◌/◌, ◌%◌, ◌^◌, ◌<◌, Bool, true, false, cond, List, [], ◌∷◌, ◌++◌, map, length, Some, None, Option, ◌==◌, nat_lt, slice_index_or, slice_set}
use Rattle.std.specs.List.{slice_get}
use Rattle.events.specs.declared.name.Name.{Name}
use Rattle.name_index.specs.declared.node.Node.{Node}
use Rattle.name_index.specs.Numbers.{Distinct}

-- bit i of a number
abbrev pub bit_of : ℕ → ℕ → Bool
bit_of n i = n / 2 ^ i % 2 == 1

-- the 28 bits of the number from the lowest, then the 16 bits of the author, then 0
abbrev pub turn_of : Name → ℕ → Bool
turn_of x d = cond (nat_lt d 28) (bit_of x.number d) (cond (nat_lt d 44) (bit_of x.author (d - 28)) false)

-- a node with nothing below it
abbrev pub leaf : Name → Node
leaf x = record { name = x; zero = None; one = None }

-- a node with the link for a bit set
abbrev pub linked : Node → Bool → ℕ → Node
linked n true j = record { name = n.name; zero = n.zero; one = Some j }
linked n false j = record { name = n.name; zero = Some j; one = n.one }

-- the nodes with a new one at the end, to which node k links for that bit
abbrev pub hung : List Node → ℕ → Bool → Name → List Node
hung ns k b x = slice_set ns k (linked (slice_index_or ns k (leaf x)) b (length ns)) ++ leaf x ∷ []

-- where a node, if there is one, links to for a bit
abbrev pub link_of : Bool → Option Node → Option ℕ
link_of b None = None
link_of true (Some n) = n.one
link_of false (Some n) = n.zero

-- where node k links to for a bit
abbrev pub link_at : List Node → ℕ → Bool → Option ℕ
link_at ns k b = link_of b (slice_get ns k)

-- one step on: by the link of the node for that bit
abbrev pub onward : List Node → Bool → Option ℕ → Option ℕ
onward ns b None = None
onward ns b (Some k) = link_at ns k b

-- a walk starts at node 0, and takes bit d of the name at step d
abbrev pub place : List Node → Name → ℕ → Option ℕ
place ns x zero = Some 0
place ns x (suc d) = onward ns (turn_of x d) (place ns x d)

-- the name of a node
abbrev pub name_of : Node → Name
name_of n = n.name

-- two names agree in the bits below d
abbrev pub Agree : Name → Name → ℕ → Type 0
Agree x y d = (i : ℕ) → i < d → turn_of x i ≡ turn_of y i

-- what holds of the nodes of every index
--     rising  a link leads to a later node
--     walked  the walk for a name comes to its node
--     meets   walks that come to the same node took the same turns
--     apart   no name stands twice
pub record Sound (ns : List Node) : Type 0 where
  pub rising : (k : ℕ) (b : Bool) (j : ℕ) → link_at ns k b ≡ Some j → (k < j) × (j < length ns)
  pub walked : (k : ℕ) (x : Name) → slice_get (map name_of ns) k ≡ Some x → (d : ℕ) × (place ns x d ≡ Some k)
  pub meets : (x y : Name) (d e k : ℕ) → place ns x d ≡ Some k → place ns y e ≡ Some k → (d ≡ e) × Agree x y d
  pub apart : Distinct (map name_of ns)
