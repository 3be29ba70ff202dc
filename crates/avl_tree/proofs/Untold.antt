-- That the nodes are the cells of the tree is a proposition, so it can be taken out of its truncation.
use Rattle.std.proofs.Common.{◌≡◌, ℕ, List, Some, None, Option, refl}
use mathlib.Core.Logic.{∥∥₁_elim}
use base.Stored.{Coded, Coded-set, coded_list, coded_via}
use Rattle.std.specs.Option.{option_to_list}
use Rattle.avl_tree.specs.contracts.node.Node.{the_row}
use Rattle.avl_tree.specs.declared.node.Node.{Node}
use Rattle.avl_tree.specs.Shape.{Stored}

list_inj : (x y : Option Node) → option_to_list x ≡ option_to_list y → x ≡ y
list_inj None None e = refl
list_inj None (Some n) e = cc
list_inj (Some m) None e = cc
list_inj (Some m) (Some n) e = cc

links_coded : Coded (Option Node)
links_coded = coded_via (coded_list the_row.coded) option_to_list list_inj

pub untold : (ns : List Node) (root : Option ℕ) → ∥ Stored ns root ∥₁ → Stored ns root
untold ns root h = ∥∥₁_elim h (Coded-set (coded_list links_coded) _ _) (λ e. e)
