-- The index of a log with nothing closed off, and at a checkpoint.
use Rattle.std.proofs.Common.{◌≡◌, Bool, not, ◌||◌, List, [], ◌∷◌, sym, refl, ap, ◌∙◌, subst, inl, inr, append-nil}
use Rattle.std.proofs.lemmas.Bool.{both_ways, cases_Bool}
use Rattle.events.specs.declared.name.Name.{Name}
use Rattle.fugue.specs.Names.{same, Ordered}
use Rattle.fugue.specs.Logs.{NewestFirst, Distinct}
use Rattle.fugue.specs.Tree.{Attachment, root, Node, Tree, sequence, only, has_node}
use Rattle.fugue.specs.Placements.{struck, placements, tree}
use Rattle.fugue.proofs.Names.{in_has}
use Rattle.fugue.proofs.Grown.{has_only}
use Rattle.fugue.proofs.Placed.{tree_none, grown_log}
use Rattle.walk_theory.specs.Standing.{Stands, in_chain, chain_tree}
use Rattle.walk_theory.specs.Indexed.{Holds, unstruck}
use Rattle.walk_theory.proofs.Bases.{names_in}
use Rattle.walk_theory.proofs.Standing.{opens, checks}
use Rattle.walk_theory.proofs.Shown.{struck_on}

pub holds_at_first : (before : Name → Name → Bool) → Ordered before → (log : NewestFirst) → Distinct log → Holds before log [] [] (tree before log) (sequence before (tree before log))
holds_at_first before o log u =
    let t = tree before log in
    let g = grown_log before log u in
    record {
      recent = log;
      is = sym (append-nil log);
      stands = subst (λ b. Stands before b [] t t (sequence before t)) (sym (tree_none before)) (opens before o t g);
      gone = λ y h k. absurd (both_ways _ k (in_has _ y (names_in before o t g y h)));
    }

chain_has : (q : Attachment) (l : List Node) (y : Name) → has_node (in_chain q l) y ≡ has_node l y
chain_has q [] y = refl
chain_has q (n ∷ l) y = ap (λ z. same n.name y || z) (chain_has _ l y)

pub holds_at_checkpoint : (before : Name → Name → Bool) → Ordered before → (log closed : NewestFirst) → Distinct log → (small : Tree) (later listed : List Node)
    → Holds before log closed small later listed
    → Holds before log log (chain_tree [] root (only (unstruck before log) listed)) [] (in_chain root (only (unstruck before log) listed))
holds_at_checkpoint before o log closed u small later listed h =
    let keep = unstruck before log in
    record {
      recent = [];
      is = refl;
      stands = checks before o (tree before closed) small later (tree before log) listed h.stands keep;
      gone = λ y k m. elim (cases_Bool (struck (placements before log) y)) [
        | inl e ↦ e
        | inr e ↦ elim (cases_Bool (has_node listed y)) [
          | inl f ↦ absurd (both_ways _ m (chain_has root (only keep listed) y ∙ has_only keep listed y f (ap not e)))
          | inr f ↦ struck_on before o log closed u small later listed h y (h.gone y k f)
        ]
      ];
    }
