-- Entries: the tests that the questions ask of one, and what a change makes of one.
use Rattle.std.specs.Prelude.{ℕ, Bool, true, false, ◌==◌}
use Rattle.indexes.specs.declared.entry.Entry.{Entry}
use Rattle.indexes.specs.declared.entry.Effect.{Effect}
use Rattle.indexes.specs.declared.entry.Effect.TheVariants.{Present, Gone}
use Rattle.indexes.specs.declared.entry.Attachment.{Attachment}

-- present in the prepared version
abbrev pub is_prepared : Entry → Bool
is_prepared e = e.prepared == 1

abbrev pub stays : Effect → Bool
stays Present = true
stays Gone = false

-- present once all events have had their effect
abbrev pub is_present : Entry → Bool
is_present e = stays e.effect

abbrev pub has : ℕ → Entry → Bool
has c e = e.character == c

abbrev pub with_prepared : ℕ → Entry → Entry
with_prepared k e =
    record { character = e.character; prepared = k; effect = e.effect; attachment = e.attachment }

abbrev pub with_effect : Effect → Entry → Entry
with_effect f e =
    record { character = e.character; prepared = e.prepared; effect = f; attachment = e.attachment }

-- what a trim makes of a kept entry
abbrev pub renewed : Attachment → Entry → Entry
renewed a e = record { character = e.character; prepared = 1; effect = e.effect; attachment = a }
