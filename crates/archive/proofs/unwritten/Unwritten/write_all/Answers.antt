use Rattle.std.proofs.Common.{◌≡◌, ◌+◌, ◌-◌, ◌*◌, ◌≤◌, [], ◌∷◌, length, take, set, Some, sym, refl, ap, ◌∙◌, subst, arith}
use Rattle.std.proofs.lemmas.Bool.{ltb-false}
use Rattle.stores.specs.Questions.{name_at}
use Rattle.archive.specs.Waiting.{Waiting, Handed, Settled}
use Rattle.archive.specs.Parts.{first_of}
use Rattle.archive.proofs.Popping.{popped_in}
use Rattle.archive.proofs.Writing.{Written, none_written, written_kept}
use Rattle.archive.proofs.Releasing.{all_written, archived}
use Rattle.archive.proofs.Step.{Step, step}
use Rattle.archive.proofs.unwritten.Unwritten.write_all.Given as given
use Rattle.archive.proofs.unwritten.Unwritten.write_all.Goals as goal
use Rattle.archive.proofs.unwritten.Unwritten.write_all.Goals.{In-Some-number_of, After-write}

-- what a turn does
turn : (g : given.Over) (c : In-Some-number_of g)
    → Step g.O.TotalOrder.first (g.S.EventStore.events c.args.self.now.store.now) (g.S.EventStore.room c.args.self.now.store.now) c.loop-name.self.work.now.cells.now c.loop-name.invariant.past.0 c.loop-name.written c.in-Some.name c.pop.new.self.cells.now c.loop-name.self.queue.now.len c.in-Some-number_of.number
turn g c =
    let s = c.args.self.now.store.now in
    let laws = g.S.EventStore.laws in
    let now = c.loop-name.self in
    let inv = c.loop-name.invariant in
    let e = c.in-Some-number_of.number in
    let x = c.in-Some.name in
    step g.O.TotalOrder.first g.met.O.TotalOrder.total.total (g.S.EventStore.events s) (laws.sound s) (g.S.EventStore.room s) (laws.within s)
    now.work.now.cells.now (omega (arith, now.room, ap g.S.EventStore.room inv.store, now.work.now.sized)) c.loop-name.written inv.past
    now.queue.now.cells.now c.pop.new.self.cells.now now.queue.now.len inv.settled now.queue.now.within now.queue.now.heaped
    x c.in-Some.ensures.after.1 e (subst (λ t. name_at (g.S.EventStore.events t) e ≡ Some x) inv.store c.in-Some-number_of.ensures.answer)

-- the cells once the event is written
cells_are : (g : given.Over) (c : After-write g)
    → c.write.new.self.cells.now ≡ set (set c.loop-name.self.work.now.cells.now c.loop-name.written c.in-Some-number_of.number) (g.S.EventStore.room c.args.self.now.store.now + c.in-Some-number_of.number) c.loop-name.written
cells_are g c =
    let now = c.loop-name.self in
    let k = c.loop-name.written in
    let e = c.in-Some-number_of.number in
    c.write.ensures.after ∙ ap (λ r. set (set now.work.now.cells.now k e) (r + e) k) (now.room ∙ ap g.S.EventStore.room c.loop-name.invariant.store)

pub loop-name-init : goal.loop-name-init
loop-name-init g c =
    let s = c.args.self.now.store.now in
    let laws = g.S.EventStore.laws in
    record {
      past = ([], none_written g.O.TotalOrder.first (g.S.EventStore.events s) (laws.sound s) (g.S.EventStore.room s) (laws.within s) c.args.self.now.work.now.cells.now c.requires.clear);
      settled = c.requires.settled;
      store = refl;
      work = refl;
      cells = refl;
    }

-- each name in the queue is that of an event
pub unreachable-requires : goal.unreachable-requires
unreachable-requires g c =
    let inv = c.loop-name.invariant in
    let queue = c.loop-name.self.queue.now in
    let p = c.in-Some.ensures.after.1 in
    let r = inv.settled.1.ready c.in-Some.name (popped_in (take queue.len queue.cells.now) _ c.in-Some.name p.elements) in
    c.in_default-number_of.ensures.answer r.0 (subst (λ t. name_at (g.S.EventStore.events t) r.0 ≡ Some c.in-Some.name) (sym inv.store) r.1)

pub write-requires : goal.write-requires
write-requires g c =
    let s = c.args.self.now.store.now in
    let within = g.S.EventStore.laws.within s in
    let t = turn g (goal.at.write-requires g c).In-Some-number_of in
    let r = c.loop-name.self.room ∙ ap g.S.EventStore.room c.loop-name.invariant.store in
    (omega (arith, t.below, within, r), omega (arith, t.less, within, r))

pub release-requires-clause-known : goal.release-requires-clause-known
release-requires-clause-known g c = omega (arith, (turn g (goal.at.release-requires-clause-known g c).In-Some-number_of).below, ap (λ t. length (g.S.EventStore.events t)) c.loop-name.invariant.store)

pub release-requires-clause-line : goal.release-requires-clause-line
release-requires-clause-line g c =
    let es = g.S.EventStore.events c.args.self.now.store.now in
    let room = g.S.EventStore.room c.args.self.now.store.now in
    let e = c.in-Some-number_of.number in
    let cells = c.write.new.self.cells.now in
    let queue = c.pop.new.self in
    let one = subst (λ xs. Handed es room xs queue.cells.now (c.loop-name.self.queue.now.len - 1) (first_of room xs e)) (sym (cells_are g (goal.at.release-requires-clause-line g c).After-write)) (turn g (goal.at.release-requires-clause-line g c).In-Some-number_of).handed in
    let two = subst (λ n. Handed es room cells queue.cells.now n (first_of room cells e)) (sym c.in-Some.ensures.after.0) one in
    subst (λ t. Handed (g.S.EventStore.events t) (g.S.EventStore.room t) cells queue.cells.now queue.len (first_of (g.S.EventStore.room t) cells e)) (sym c.loop-name.invariant.store) two

pub loop-name-smaller : goal.loop-name-smaller
loop-name-smaller g c = let t = turn g (goal.at.loop-name-smaller g c).In-Some-number_of in omega (arith, t.less)

pub loop-name-preserved : goal.loop-name-preserved
loop-name-preserved g c =
    let s = c.args.self.now.store.now in
    let es = g.S.EventStore.events s in
    let room = g.S.EventStore.room s in
    let laws = g.S.EventStore.laws in
    let inv = c.loop-name.invariant in
    let past = c.in-Some.name ∷ inv.past.0 in
    let cells = c.write.new.self.cells.now in
    let new = c.release.new.self in
    let w = subst (λ xs. Written g.O.TotalOrder.first es room xs past (c.loop-name.written + 1)) (sym (cells_are g (goal.at.loop-name-preserved g c).After-write)) (turn g (goal.at.loop-name-preserved g c).In-Some-number_of).written in
    let kept = subst (λ t. take (2 * g.S.EventStore.room t) new.work.now.cells.now ≡ take (2 * g.S.EventStore.room t) cells) inv.store c.release.ensures.kept in
    record {
      past = (past, written_kept g.O.TotalOrder.first es (laws.sound s) room (laws.within s) cells new.work.now.cells.now past (c.loop-name.written + 1) kept w);
      settled = subst (λ t. Settled (g.S.EventStore.events t) (g.S.EventStore.room t) new.work.now.cells.now new.queue.now.cells.now new.queue.now.len) inv.store c.release.ensures.after;
      store = c.release.ensures.same.0 ∙ inv.store;
      work = c.release.ensures.same.1.0 ∙ inv.work;
      cells = c.release.ensures.same.1.1 ∙ c.write.ensures.same.0 ∙ inv.cells;
    }

pub returns : goal.returns
returns g c =
    let s = c.args.self.now.store.now in
    let es = g.S.EventStore.events s in
    let room = g.S.EventStore.room s in
    let laws = g.S.EventStore.laws in
    let now = c.loop-name.self in
    let inv = c.loop-name.invariant in
    let cells = now.work.now.cells.now in
    let room4 : 4 * room ≤ length cells = omega (arith, now.room, ap g.S.EventStore.room inv.store, now.work.now.sized) in
    let empty : now.queue.now.len ≡ 0 = omega (arith, ltb-false 0 now.queue.now.len (sym c.in_default.ensures.answer)) in
    let was = subst (λ m. Waiting es room cells (take m now.queue.now.cells.now) inv.settled.0 []) empty inv.settled.1 in
    record {
      answer = all_written g.O.TotalOrder.first es (laws.sound s) room (laws.within s) cells room4 inv.past.0 c.loop-name.written inv.past.1 inv.settled.0 was;
      same = (inv.work, inv.cells);
      after = archived g.O.TotalOrder.first es (laws.sound s) room (laws.within s) cells room4 inv.past.0 c.loop-name.written inv.past.1 inv.settled.0 was;
    }
