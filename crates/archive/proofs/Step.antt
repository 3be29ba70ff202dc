-- One turn: the name that comes first leaves the queue, and its event is written.
use Rattle.std.proofs.Common.{◌≡◌, ℕ, ◌+◌, ◌-◌, ◌*◌, ◌<◌, ◌≤◌, Bool, not, List, [], ◌∷◌, ◌++◌, length, take, set, Some, sym, ap, ◌∙◌, subst}
use Rattle.std.specs.List.{slice_get}
use Rattle.std.specs.List.Sorted.{IsPermutation}
use Rattle.std.proofs.lemmas.Option.{slice_get_within}
use Rattle.events.specs.declared.name.Name.{Name}
use Rattle.events.specs.Parts.{StoredEvent}
use Rattle.events.specs.WellFormed.{WellFormed}
use Rattle.stores.specs.Questions.{name_at}
use Rattle.queue.specs.Heaps.{Heaped, Popped}
use Rattle.archive.specs.Times.{times_named}
use Rattle.archive.specs.Parts.{first_of}
use Rattle.archive.specs.Waiting.{Handed, Settled}
use Rattle.archive.proofs.Stored.{event_with}
use Rattle.archive.proofs.Popping.{popped_count, popped_in, leads_named}
use Rattle.archive.proofs.Writing.{Written, written_less, next_named, written_more}
use Rattle.archive.proofs.Releasing.{freed, freed_line}

pub record Step (before : Name → Name → Bool) (es : List StoredEvent) (room : ℕ) (cells : List ℕ) (past : List Name) (k : ℕ) (x : Name) (new : List Name) (len e : ℕ) : Type 0 where
  pub below : e < length es
  pub less : k < length es
  pub written : Written before es room (set (set cells k e) (room + e) k) (x ∷ past) (k + 1)
  pub handed : Handed es room (set (set cells k e) (room + e) k) new (len - 1) (first_of room (set (set cells k e) (room + e) k) e)

pub step : (before : Name → Name → Bool) → ((a b : Name) → (a ≡ b → ⊥) → before a b ≡ not (before b a))
    → (es : List StoredEvent) → WellFormed es → (room : ℕ) → length es ≤ room
    → (cells : List ℕ) → 4 * room ≤ length cells → (k : ℕ) (w : (past : List Name) × Written before es room cells past k)
    → (old new : List Name) (len : ℕ) → Settled es room cells old len → len ≤ length old → Heaped before old len
    → (x : Name) → Popped before old len x new → (e : ℕ) → name_at es e ≡ Some x → Step before es room cells w.0 k x new len e
step before total es wf room inside cells room4 k w old new len s within heaped x p e n =
    let h = event_with (λ (d : StoredEvent). d.name) (slice_get es e) x n in
    let d = h.0 in
    let same : d.name ≡ x = h.2 in
    let in-queue = popped_in (take len old) (take (len - 1) new) x p.elements in
    let next = next_named before es wf room inside cells w.0 k w.1 total (take len old) s.0 s.1 e d h.1
    (subst (λ y. 1 ≤ times_named (take len old) y) (sym same) in-queue)
    (λ y i. ap (before y) same ∙ leads_named before old len x within (p.leads heaped) y i) in
    let less = written_less before es wf room inside cells w.0 k e x w.1 n next.0.0 in
    let fewer = popped_count (take len old) (take (len - 1) new) d.name (subst (λ y. IsPermutation (take len old) (take (len - 1) new ++ y ∷ [])) (sym same) p.elements) in
    record {
      below = slice_get_within es e d h.1;
      less = less;
      written = subst (λ y. Written before es room (set (set cells k e) (room + e) k) (y ∷ w.0) (k + 1)) same (written_more before es wf room inside cells room4 w.0 k e d w.1 h.1 next.0.0 less next.1);
      handed = (
        _,
        s.0 e,
        freed before es wf room inside cells room4 w.0 k e d w.1 h.1 next.0.0 less (take len old) (take (len - 1) new) s.0 s.1 next.0 fewer,
        freed_line before es wf room inside cells room4 w.0 k e d w.1 h.1 next.0.0 less (take len old) (take (len - 1) new) s.0 s.1 next.0 fewer,
      );
    }
