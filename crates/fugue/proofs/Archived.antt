-- Archive order is an order in which the events could have come: an admissible log with the same events.
use Rattle.std.proofs.Common.{◌≡◌, Bool, true, ◌⊎◌, List, [], ◌∷◌, reverse, sym, ◌∙◌, subst, inl, inr}
use mathlib.Core.List.{reverse_aux}
use Rattle.events.specs.declared.name.Name.{Name}
use Rattle.events.specs.Parts.{NamedEvent}
use Rattle.fugue.specs.Names.{◌∈◌, has, Ordered}
use Rattle.fugue.proofs.Lists.{Alike, all_member}
use Rattle.fugue.specs.Logs.{NewestFirst, names, Distinct, ParentsHeld, Within}
use Rattle.fugue.specs.Archive.{Admits, Admissible, Next, WrittenFrom, ArchiveOrder}
use Rattle.fugue.proofs.Versions.{event_of_lem, one_event, behind_forth, behind_back}
use Rattle.fugue.proofs.SameEvents.{same_event, same_placement, placements_within}

pub in_reverse : {X : Type 0} (xs acc : List X) (x : X) → (x ∈ xs) ⊎ (x ∈ acc) → x ∈ reverse_aux xs acc
in_reverse [] acc x (inl i) = elim i [ ]
in_reverse [] acc x (inr i) = i
in_reverse (y ∷ xs) acc x (inl i) = elim i [ inl e ↦ in_reverse xs (y ∷ acc) x (inr (inl e)) | inr j ↦ in_reverse xs (y ∷ acc) x (inl j) ]
in_reverse (y ∷ xs) acc x (inr i) = in_reverse xs (y ∷ acc) x (inr (inr i))

pub from_reverse : {X : Type 0} (xs acc : List X) (x : X) → x ∈ reverse_aux xs acc → (x ∈ xs) ⊎ (x ∈ acc)
from_reverse [] acc x i = inr i
from_reverse (y ∷ xs) acc x i = elim (from_reverse xs (y ∷ acc) x i) [
  | inl j ↦ inl (inr j)
  | inr j ↦ elim j [ inl e ↦ inl (inl e) | inr k ↦ inr k ]
]

module _ (before : Name → Name → Bool) where
  pub admissible_distinct : (log : NewestFirst) → Admissible before log → Distinct log
  admissible_distinct [] a = tt
  admissible_distinct (e ∷ older) a = (a.0.fresh, admissible_distinct older a.1)

  pub admissible_held : (log : NewestFirst) → Admissible before log → ParentsHeld log
  admissible_held [] a = tt
  admissible_held (e ∷ older) a = (a.0.held, admissible_held older a.1)

  -- an event with the log that admitted it
  record Came (log : NewestFirst) (e : NamedEvent) : Type 0 where
    older : NewestFirst
    sub : (d : NamedEvent) → d ∈ older → d ∈ log
    admissible : Admissible before older
    admits : Admits before older e

  came : (log : NewestFirst) → Admissible before log → (e : NamedEvent) → e ∈ log → Came log e
  came [] a e i = elim i [ ]
  came (d ∷ log) a e (inl q) = record { older = log; sub = λ c j. inr j; admissible = a.1; admits = subst (Admits before log) (sym q) a.0 }
  came (d ∷ log) a e (inr i) = let r = came log a.1 e i in record { older = r.older; sub = λ c j. inr (r.sub c j); admissible = r.admissible; admits = r.admits }

  -- a log, newest first, that goes on as the events are written
  record Written (log acc : NewestFirst) : Type 0 where
    distinct : Distinct acc
    below : ParentsHeld acc
    sub : (d : NamedEvent) → d ∈ acc → d ∈ log

  module _ (log : NewestFirst) where
    writes : (acc : NewestFirst) (e : NamedEvent) → Written log acc → Next before (names acc) log e → Written log (e ∷ acc)
    writes acc e w n = record {
      distinct = (n.ready.unwritten, w.distinct);
      below = (n.ready.after, w.below);
      sub = λ d i. elim i [ inl q ↦ subst (λ z. z ∈ log) (sym q) n.ready.held | inr j ↦ w.sub d j ];
    }

    all_written : (es : List NamedEvent) (acc : NewestFirst) → WrittenFrom before (names acc) log es → Written log acc → Written log (reverse_aux es acc)
    all_written [] acc v w = w
    all_written (e ∷ es) acc v w = all_written es (e ∷ acc) v.1 (writes acc e w v.0)

    -- every event held is written in the end
    none_left : (es : List NamedEvent) (acc : NewestFirst) → WrittenFrom before (names acc) log es → (d : NamedEvent) → d ∈ log → has (names (reverse_aux es acc)) d.name ≡ true
    none_left [] acc v d i = all_member _ log d v i
    none_left (e ∷ es) acc v d i = none_left es (e ∷ acc) v.1 d i

    module _ (u : Distinct log) (es : List NamedEvent) (v : ArchiveOrder before log es) where
      nothing : Written log []
      nothing = record { distinct = tt; below = tt; sub = λ d i. absurd i }

      pub archive_once : Distinct (reverse es)
      archive_once = (all_written es [] v nothing).distinct

      pub archive_after : ParentsHeld (reverse es)
      archive_after = (all_written es [] v nothing).below

      pub archive_members : Alike es log
      archive_members e = (
        (λ i. (all_written es [] v nothing).sub e (in_reverse es [] e (inl i))),
        (λ i. let r = event_of_lem (reverse es) e.name (none_left es [] v e i) in
            let q = one_event log u r.0 e ((all_written es [] v nothing).sub r.0 r.1) i r.2 in
            elim (from_reverse es [] e (subst (λ z. z ∈ reverse es) q r.1)) [ inl j ↦ j | inr j ↦ elim j [ ] ]),
      )

  module _ (o : Ordered before) (log : NewestFirst) (a : Admissible before log) where
    u : Distinct log
    u = admissible_distinct log a

    k : ParentsHeld log
    k = admissible_held log a

    -- what was admitted when it came is admitted again
    admits_again : (acc : NewestFirst) → Written log acc → (e : NamedEvent) → Next before (names acc) log e → Admits before acc e
    admits_again acc w e n =
        let r = came log a e n.ready.held in
        let uo = admissible_distinct r.older r.admissible in
        let ko = admissible_held r.older r.admissible in
        let in-acc : Within acc log = λ d i. (d, w.sub d i, same_event before d) in
        let in_older : Within r.older log = λ d i. (d, r.sub d i, same_event before d) in
        let m = same_placement before o log u k acc r.older e e
        (record {
          distinct = w.distinct;
          below = w.below;
          within = in-acc;
          placed = placements_within before o log u k acc w.distinct w.below in-acc;
          known = λ x i _. all_member _ e.parents x n.ready.after i;
        })
        (record {
          distinct = uo;
          below = ko;
          within = in_older;
          placed = placements_within before o log u k r.older uo ko in_older;
          known = λ x i _. all_member _ e.parents x r.admits.held i;
        }) (same_event before e) in
        record {
          fresh = n.ready.unwritten;
          held = n.ready.after;
          few = r.admits.few;
          once = r.admits.once;
          apart = λ p q i j b. r.admits.apart p q i j
              (behind_back r.older log in_older u ko (behind_forth acc log in-acc b) (all_member _ e.parents p r.admits.held i));
          inside = λ z. r.admits.inside (sym m ∙ z);
        }

    admissible_on : (es : List NamedEvent) (acc : NewestFirst) → WrittenFrom before (names acc) log es → Written log acc → Admissible before acc → Admissible before (reverse_aux es acc)
    admissible_on [] acc v w h = h
    admissible_on (e ∷ es) acc v w h = admissible_on es (e ∷ acc) v.1 (writes log acc e w v.0) (admits_again acc w e v.0, h)

    pub archive_admissible : (es : List NamedEvent) → ArchiveOrder before log es → Admissible before (reverse es)
    archive_admissible es v = admissible_on es [] v (nothing log u es v) tt
