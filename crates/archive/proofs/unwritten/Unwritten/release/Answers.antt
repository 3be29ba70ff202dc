use Rattle.std.proofs.Common.{◌≡◌, suc, ◌*◌, ◌<◌, ◌≤◌, length, take, sym, refl, ap, ◌∙◌, subst, arith, IfSome}
use Rattle.std.specs.Option.{unwrap_or}
use Rattle.archive.specs.Parts.{none, first_of}
use Rattle.archive.specs.Calls.{Held, Placed}
use Rattle.archive.specs.Waiting.{Handed, InHand}
use Rattle.archive.proofs.Lines.{steps, held_first, held_below, handed_first, handed_none, next_waits}
use Rattle.archive.proofs.unwritten.Unwritten.release.Given as given
use Rattle.archive.proofs.unwritten.Unwritten.release.Goals as goal
use Rattle.archive.proofs.unwritten.Unwritten.release.Goals.{After-place}

pub loop-waiting-init : goal.loop-waiting-init
loop-waiting-init g c =
    let s = c.args.self.now in
    let es = g.S.EventStore.events s.store.now in
    let room = g.S.EventStore.room s.store.now in
    let laws = g.S.EventStore.laws in
    let cells = s.work.now.cells.now in
    let o = c.first-waiting.result in
    let held = subst (λ m. Held m (first_of room cells c.args.e) o) s.count (subst (λ r. Held s.work.now.count (first_of r cells c.args.e) o) s.room c.first-waiting.ensures.answer) in
    let at = held_first es (laws.sound s.store.now) room (laws.within s.store.now) (laws.small s.store.now) cells s.queue.now.cells.now s.queue.now.len _ o c.requires.line held in
    record {
      handed = subst (λ v. Handed es room cells s.queue.now.cells.now s.queue.now.len v) (sym at) c.requires.line;
      below = held_below es (laws.sound s.store.now) room (laws.within s.store.now) (laws.small s.store.now) _ o held;
      kept = refl;
      store = refl;
      work = refl;
      cells = refl;
    }

pub place-requires-clause-hand : goal.place-requires-clause-hand
place-requires-clause-hand g c =
    let s = c.args.self.now.store.now in
    let es = g.S.EventStore.events s in
    let room = g.S.EventStore.room s in
    let laws = g.S.EventStore.laws in
    let now = c.loop-waiting.self in
    let inv = c.loop-waiting.invariant in
    let w = c.in-Some.w in
    let less : w < length es = subst (λ o. IfSome o (λ k. k < length es)) c.in-Some.is inv.below in
    let handed = subst (λ o. Handed es room now.work.now.cells.now now.queue.now.cells.now now.queue.now.len (unwrap_or o none)) c.in-Some.is inv.handed in
    let within = laws.within s in
    let small = laws.small s in
    subst (λ t. InHand (g.S.EventStore.events t) (g.S.EventStore.room t) now.work.now.cells.now now.queue.now.cells.now now.queue.now.len w) (sym inv.store)
    (handed_first es (laws.sound s) room within small now.work.now.cells.now now.queue.now.cells.now now.queue.now.len w handed (λ z. omega (arith, z, less, within, small)))

-- the event of the line is placed: the rest of the line is in hand, and is shorter
turn : (g : given.Over) (c : After-place g)
    → let es = g.S.EventStore.events c.args.self.now.store.now in
    let room = g.S.EventStore.room c.args.self.now.store.now in
    let now = c.loop-waiting.self in
    let new = c.place.new.self in
    Handed es room new.work.now.cells.now new.queue.now.cells.now new.queue.now.len (unwrap_or c.behind-waiting.result none) × IfSome c.behind-waiting.result (λ k. k < length es)
    × (suc (steps (length es) room new.work.now.cells.now (unwrap_or c.behind-waiting.result none)) ≤ steps (length es) room now.work.now.cells.now (unwrap_or c.loop-waiting.waiting none))
turn g c =
    let s = c.args.self.now.store.now in
    let es = g.S.EventStore.events s in
    let room = g.S.EventStore.room s in
    let laws = g.S.EventStore.laws in
    let now = c.loop-waiting.self in
    let new = c.place.new.self in
    let inv = c.loop-waiting.invariant in
    let w = c.in-Some.w in
    let placed = subst (λ t. Placed (g.S.EventStore.events t) (g.S.EventStore.room t) w now.work.now.cells.now now.queue.now.cells.now now.queue.now.len new.work.now.cells.now new.queue.now.cells.now new.queue.now.len) inv.store c.place.ensures.after in
    next_waits es (laws.sound s) room (laws.within s) (laws.small s) now.work.now.cells.now now.queue.now.cells.now now.queue.now.len w new.work.now.cells.now new.queue.now.cells.now new.queue.now.len
    c.loop-waiting.waiting c.behind-waiting.result now.work.now.room now.work.now.count (now.room ∙ ap g.S.EventStore.room inv.store) (now.count ∙ ap (λ t. length (g.S.EventStore.events t)) inv.store)
    c.in-Some.is (subst (λ o. IfSome o (λ k. k < length es)) c.in-Some.is inv.below) inv.handed placed c.behind-waiting.ensures.answer

pub loop-waiting-smaller : goal.loop-waiting-smaller
loop-waiting-smaller g c = (turn g c).2

pub loop-waiting-preserved : goal.loop-waiting-preserved
loop-waiting-preserved g c =
    let now = c.loop-waiting.self in
    let new = c.place.new.self in
    let inv = c.loop-waiting.invariant in
    let kept = subst (λ t. take (2 * g.S.EventStore.room t) new.work.now.cells.now ≡ take (2 * g.S.EventStore.room t) now.work.now.cells.now) inv.store c.place.ensures.kept in
    record {
      handed = (turn g c).0;
      below = (turn g c).1;
      kept = kept ∙ inv.kept;
      store = c.place.ensures.same.0 ∙ inv.store;
      work = c.place.ensures.same.1.0 ∙ inv.work;
      cells = c.place.ensures.same.1.1 ∙ inv.cells;
    }

pub returns-clause-after : goal.returns-clause-after
returns-clause-after g c =
    let s = c.args.self.now.store.now in
    let laws = g.S.EventStore.laws in
    let now = c.loop-waiting.self in
    let handed = subst (λ o. Handed (g.S.EventStore.events s) (g.S.EventStore.room s) now.work.now.cells.now now.queue.now.cells.now now.queue.now.len (unwrap_or o none)) c.in_default.is c.loop-waiting.invariant.handed in
    handed_none (g.S.EventStore.events s) (laws.sound s) (g.S.EventStore.room s) (laws.within s) (laws.small s) now.work.now.cells.now now.queue.now.cells.now now.queue.now.len none handed refl
