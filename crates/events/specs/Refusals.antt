-- The refusals: number, word, layer and place of each.
--     number_of  what a refusal is called by, 1 to 15
--     word_of    its word
--     layer_of   the part of the program that refuses
--     place_of   where: a word of the file, an event's number, or a needed length
-- Each is also defined of a file's fault and of an event's, and a fault keeps all four on its way up.
use Rattle.std.specs.Prelude.{ℕ, List, codes}
use Rattle.events.specs.declared.faults.FileFault.{FileFault}
use Rattle.events.specs.declared.faults.EventFault.{EventFault}
use Rattle.events.specs.declared.faults.BookFault.{BookFault}
use Rattle.events.specs.declared.faults.Layer.{Layer}

-- ---- what is wrong with a file

abbrev pub number_of_file : FileFault → ℕ
number_of_file (FileFault.Length w) = 1
number_of_file FileFault.Head = 2
number_of_file (FileFault.Kind w) = 3
number_of_file (FileFault.End w) = 4

abbrev pub layer_of_file : FileFault → Layer
layer_of_file f = Layer.File

abbrev pub word_of_file : FileFault → List ℕ
word_of_file (FileFault.Length w) = codes "length"
word_of_file FileFault.Head = codes "head"
word_of_file (FileFault.Kind w) = codes "kind"
word_of_file (FileFault.End w) = codes "end"

-- the word's place in the file; of a length, how many whole words there are
abbrev pub place_of_file : FileFault → ℕ
place_of_file (FileFault.Length w) = w
place_of_file FileFault.Head = 0
place_of_file (FileFault.Kind w) = w
place_of_file (FileFault.End w) = w

-- ---- what is wrong with an event

abbrev pub number_of_event : EventFault → ℕ
number_of_event (EventFault.File f) = number_of_file f
number_of_event (EventFault.Name e) = 5
number_of_event (EventFault.Character e) = 6
number_of_event (EventFault.Held e) = 7
number_of_event (EventFault.Clash e) = 8
number_of_event (EventFault.Unknown e) = 9
number_of_event (EventFault.Parents e) = 10

abbrev pub word_of_event : EventFault → List ℕ
word_of_event (EventFault.File f) = word_of_file f
word_of_event (EventFault.Name e) = codes "name"
word_of_event (EventFault.Character e) = codes "character"
word_of_event (EventFault.Held e) = codes "held"
word_of_event (EventFault.Clash e) = codes "clash"
word_of_event (EventFault.Unknown e) = codes "unknown"
word_of_event (EventFault.Parents e) = codes "parents"

abbrev pub layer_of_event : EventFault → Layer
layer_of_event (EventFault.File f) = layer_of_file f
layer_of_event (EventFault.Name e) = Layer.Event
layer_of_event (EventFault.Character e) = Layer.Event
layer_of_event (EventFault.Held e) = Layer.Event
layer_of_event (EventFault.Clash e) = Layer.Event
layer_of_event (EventFault.Unknown e) = Layer.Event
layer_of_event (EventFault.Parents e) = Layer.Event

abbrev pub place_of_event : EventFault → ℕ
place_of_event (EventFault.File f) = place_of_file f
place_of_event (EventFault.Name e) = e
place_of_event (EventFault.Character e) = e
place_of_event (EventFault.Held e) = e
place_of_event (EventFault.Clash e) = e
place_of_event (EventFault.Unknown e) = e
place_of_event (EventFault.Parents e) = e

-- ---- why a call is refused

abbrev pub number_of : BookFault → ℕ
number_of (BookFault.Event f) = number_of_event f
number_of (BookFault.StoreFull e) = 11
number_of (BookFault.Behind e) = 12
number_of (BookFault.Beyond e) = 13
number_of (BookFault.IndexFull e) = 14
number_of (BookFault.Short n) = 15

abbrev pub word_of : BookFault → List ℕ
word_of (BookFault.Event f) = word_of_event f
word_of (BookFault.StoreFull e) = codes "store full"
word_of (BookFault.Behind e) = codes "behind"
word_of (BookFault.Beyond e) = codes "beyond"
word_of (BookFault.IndexFull e) = codes "index full"
word_of (BookFault.Short n) = codes "short"

abbrev pub layer_of : BookFault → Layer
layer_of (BookFault.Event f) = layer_of_event f
layer_of (BookFault.StoreFull e) = Layer.Store
layer_of (BookFault.Behind e) = Layer.Walk
layer_of (BookFault.Beyond e) = Layer.Walk
layer_of (BookFault.IndexFull e) = Layer.Walk
layer_of (BookFault.Short n) = Layer.Caller

-- the event's number, or the needed length
abbrev pub place_of : BookFault → ℕ
place_of (BookFault.Event f) = place_of_event f
place_of (BookFault.StoreFull e) = e
place_of (BookFault.Behind e) = e
place_of (BookFault.Beyond e) = e
place_of (BookFault.IndexFull e) = e
place_of (BookFault.Short n) = n
