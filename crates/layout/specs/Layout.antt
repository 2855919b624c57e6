-- The byte layout of a sheet: one definition that reading and writing are both held to. Assumes nothing.
--   be16, be32       a number in two and in four bytes, the highest first
--   field            a tag in one byte, a length in two, a value
--   entry_bytes      each field of a sheet
--   layout           the bytes of a job
use Rattle.std.specs.Prelude.{ℕ, ◌/◌, ◌%◌, List, [], ◌∷◌, ◌++◌, length, Some, None, Option}
use Rattle.std.specs.List.{flat_map}
use Rattle.chip.specs.declared.parameters.FlowParameters.{FlowParameters}
use Rattle.sheet.specs.declared.pair.Pair.{Pair}
use Rattle.job.specs.Jobs.{Contents}
use Rattle.sheet.specs.Letters.{letter_code}
use Rattle.layout.specs.declared.entry.Entry.{Entry}
use Rattle.layout.specs.declared.entry.Entry.TheVariants as entry

-- a number below 65,536 in two bytes
abbrev pub be16 : ℕ → List ℕ
be16 n = n / 256 ∷ n % 256 ∷ []

-- a number below 2 ^ 32 in four bytes
abbrev pub be32 : ℕ → List ℕ
be32 n = n / 16777216 ∷ n / 65536 % 256 ∷ n / 256 % 256 ∷ n % 256 ∷ []

-- the value of a flow field: label, period, deadline, jitter, latency, source and destination
abbrev pub flow_value : FlowParameters → List ℕ
flow_value p =
    be16 p.label ++ be32 p.period ++ be32 p.deadline ++ be32 p.jitter ++ be32 p.latency
    ++ p.source.column ∷ p.source.row ∷ p.destination.column ∷ p.destination.row ∷ []

-- the value of a pair field: the labels of the first and of the later flow
abbrev pub pair_value : Pair → List ℕ
pair_value q = be16 q.first ++ be16 q.later

-- the tag of each field
abbrev pub tag_of : Entry → ℕ
tag_of (entry.Rule letter) = 0x01
tag_of (entry.Flow p) = 0x02
tag_of (entry.Reserve ticks) = 0x03
tag_of (entry.Pair q) = 0x04
tag_of entry.End = 0x05

-- the value of each field
abbrev pub value_of : Entry → List ℕ
value_of (entry.Rule letter) = letter ∷ []
value_of (entry.Flow p) = flow_value p
value_of (entry.Reserve ticks) = be32 ticks
value_of (entry.Pair q) = pair_value q
value_of entry.End = []

-- a field: its tag, the length of its value, its value
abbrev pub entry_bytes : Entry → List ℕ
entry_bytes e = tag_of e ∷ be16 (length (value_of e)) ++ value_of e

-- a flow field
abbrev pub flow_bytes : FlowParameters → List ℕ
flow_bytes p = entry_bytes (entry.Flow p)

-- a pair field
abbrev pub pair_bytes : Pair → List ℕ
pair_bytes q = entry_bytes (entry.Pair q)

-- the reserve field, where there is a reserve
abbrev pub reserve_bytes : Option ℕ → List ℕ
reserve_bytes None = []
reserve_bytes (Some ticks) = entry_bytes (entry.Reserve ticks)

-- a sheet: the rule, the flows, the reserve, the pairs, the end
abbrev pub layout : Contents → List ℕ
layout c =
    entry_bytes (entry.Rule (letter_code c.letter))
    ++ flat_map flow_bytes c.flows
    ++ reserve_bytes c.reserve
    ++ flat_map pair_bytes c.pairs
    ++ entry_bytes entry.End
