-- The words of the library and of events that the definitions are written in.
pub use Rattle.std.specs.Prelude.{ℕ, zero, suc, Bool, true, false, cond, not, List, [], map, reverse, length, take, drop, eqb}
pub use Rattle.std.specs.List.{AllZip as Each, filter as kept_by, flat_map as joined, AllByRecursion, slice_get as nth}
pub use Rattle.std.specs.declared.option.Option.{Option}
pub use Rattle.std.specs.declared.option.Option.TheVariants.{None, Some}
pub use Rattle.std.specs.Option.{option_map as mapped, unwrap_or as value_or}
pub use Rattle.events.specs.declared.name.Name.{Name}
pub use Rattle.events.specs.declared.character.Character.{Character}
pub use Rattle.events.specs.declared.position.Position.{Position}
pub use Rattle.events.specs.declared.deed.Deed.{Deed}
pub use Rattle.events.specs.Parts.{NamedEvent, StoredEvent, SameEvent}
