-- Of an event's parents, one that is not written.
use Rattle.std.proofs.Common.{◌≡◌, ℕ, ◌<◌, ◌≤◌, List, length, get_or, Some, None, Option, sym, ap, ◌∙◌, subst, arith}
use Rattle.std.specs.List.{slice_get}
use Rattle.std.proofs.lemmas.Option.{slice_get-get_or, slice_get_within, get_or_from_slice_get}
use Rattle.events.specs.Parts.{StoredEvent}
use Rattle.events.specs.WellFormed.{WellFormed}
use Rattle.stores.specs.Questions.{parents_at, parent_at}
use Rattle.archive.specs.Parts.{number_of, Done}
use Rattle.archive.specs.Calls.{Awaited, OpenOne}
use Rattle.archive.proofs.Placing.{parent_event}
use Rattle.archive.proofs.Stored.{parent_in}

module _ (es : List StoredEvent) (wf : WellFormed es) (room r count : ℕ) (cells : List ℕ) (e : ℕ) (ps : List ℕ) (room-is : r ≡ room) (count-is : count ≡ length es) (are : Some ps ≡ parents_at es e) where
  -- a parent at its place in the list is an event
  at_place : (k : ℕ) → k < length ps → parent_at es e k ≡ Some (get_or ps k 0)
  at_place k l = parent_in es e ps are k ∙ slice_get-get_or ps k 0 l

  pub parents_below : length es ≤ room → (k : ℕ) → k < length ps → get_or ps k 0 < r
  parents_below inside k l = let p = parent_event es wf room e k _ (at_place k l) in omega (arith, p, inside, room-is)

  same : (p : ℕ) → number_of r cells p ≡ number_of room cells p
  same p = ap (λ m. number_of m cells p) room-is

  pub awaited_one : (o : Option ℕ) → OpenOne count r cells ps o → Awaited es room cells e o
  awaited_one (Some p) h =
      let k = h.1.0 in
      let at : parent_at es e k ≡ Some p = at_place k h.1.1.0 ∙ ap Some h.1.1.1 in
      (parent_event es wf room e k p at, omega (arith, h.0, same p, count-is), (k, at))
  awaited_one None h = λ k p q.
      let at : slice_get ps k ≡ Some p = sym (parent_in es e ps are k) ∙ q in
      let done = h k (slice_get_within ps k p at) in
      let here = same (get_or ps k 0) in
      subst (λ v. Done es room cells v) (get_or_from_slice_get ps k p 0 at) (omega (arith, done, here, count-is))
