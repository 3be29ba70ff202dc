use Rattle.std.proofs.Common.{◌≡◌, ◌+◌, ◌*◌, ◌≤◌, [], ◌∷◌, ◌++◌, length, take, sym, refl, ap, subst, arith}
use Rattle.std.specs.List.Sorted.{IsPermutation}
use Rattle.std.proofs.lemmas.List.{length-take-le}
use Rattle.std.proofs.lemmas.Bool.{ltb-false}
use Rattle.events.specs.Parts.{StoredEvent}
use Rattle.stores.proofs.Asked.{none_past}
use Rattle.archive.specs.Calls.{Placed}
use Rattle.archive.specs.Parts.{first_of}
use Rattle.archive.proofs.Cells.{neither, hung_cells}
use Rattle.archive.proofs.Placing.{joins, hung, entered, has_cell, pushed_count}
use Rattle.archive.proofs.unwritten.Unwritten.place.Goals as goal

-- the event begins the line at an unwritten parent
pub returns-in-Some-clause-after : goal.returns-in-Some-clause-after
returns-in-Some-clause-after g c =
    let s = c.args.self.now in
    let es = g.S.EventStore.events s.store.now in
    let room = g.S.EventStore.room s.store.now in
    let wf = g.S.EventStore.laws.sound s.store.now in
    let inside = g.S.EventStore.laws.within s.store.now in
    let cells = s.work.now.cells.now in
    let names = s.queue.now.cells.now in
    let len = s.queue.now.len in
    let e = c.args.e in
    let r = s.work.now.room in
    let eq : r ≡ room = s.room in
    let room4 : 4 * room ≤ length cells = omega (arith, eq, s.work.now.sized) in
    let p = c.in-Some.p in
    let a = c.in-Some.ensures.answer in
    subst (λ xs. Placed es room e cells names len xs names len) (sym c.hang.ensures.after)
    (record {
      behind = λ v i l. neither cells (3 * r + e) (2 * r + p) _ _ (3 * room + v) (λ z. i (omega (arith, eq, z))) (λ z. let b = a.0 in omega (arith, eq, z, b, inside));
      settles = λ lines hand was. (
        joins es wf room lines e p,
        hung es wf room cells _ (take len names) lines hand e was p a.2.0 a.1 a.2.1
            (hung_cells es wf room r e p (first_of r cells p) cells eq (ap (λ k. first_of k cells p) eq) inside room4 c.requires.known a.0),
      );
    })

-- every event has a name
pub unreachable-requires : goal.unreachable-requires
unreachable-requires g c =
    let es = g.S.EventStore.events c.args.self.now.store.now in
    omega (arith, none_past (λ (e : StoredEvent). e.name) es c.args.e c.in_default-name.ensures.answer, c.requires.known)

-- there is a cell for it in the list of names
pub unreachable-requires-then-not-push : goal.unreachable-requires-then-not-push
unreachable-requires-then-not-push g c =
    let s = c.args.self.now in
    let es = g.S.EventStore.events s.store.now in
    let wf = g.S.EventStore.laws.sound s.store.now in
    let len = s.queue.now.len in
    let old = s.queue.now.cells.now in
    let h = c.requires.hand in
    let cell = has_cell es wf (g.S.EventStore.room s.store.now) s.work.now.cells.now (take len old) h.0 h.1.0 c.args.e c.in-Some-name.name h.1.1 (sym c.in-Some-name.ensures.answer) in
    omega (arith, cell, length-take-le len old s.queue.now.within, s.fits, ltb-false len (length old) (sym c.if-not-push.ensures.answer))

-- its parents are all written, and it is in the queue
pub returns-clause-after : goal.returns-clause-after
returns-clause-after g c =
    let s = c.args.self.now in
    let es = g.S.EventStore.events s.store.now in
    let wf = g.S.EventStore.laws.sound s.store.now in
    let x = c.in-Some-name.name in
    let len = s.queue.now.len in
    let old = s.queue.now.cells.now in
    let new = c.push.new.self in
    let p = c.if-not-push.ensures.after refl in
    let more = subst (λ n. IsPermutation (take len old ++ x ∷ []) (take n new.cells.now)) (sym p.0) p.1.elements in
    record {
      behind = λ v i l. refl;
      settles = λ lines hand was. (
        lines,
        entered es wf (g.S.EventStore.room s.store.now) s.work.now.cells.now (take len old) lines hand c.args.e x was (sym c.in-Some-name.ensures.answer) (take new.len new.cells.now)
            (λ y. pushed_count (take len old) (take new.len new.cells.now) x y more) c.in_default.ensures.answer,
      );
    }
