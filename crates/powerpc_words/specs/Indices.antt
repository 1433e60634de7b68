-- Where the entry of a place may stand, for one who reads the table words. Assumes nothing.
use Rattle.std.specs.Prelude.{ℕ, true, false}
use Rattle.powerpc_words.specs.declared.places.Indices.{Indices}
use Rattle.powerpc_words.specs.Hashing.{vsid, segment_of, group, entry_word}

abbrev pub indices_of : ℕ → ℕ → Indices
indices_of space page = record {
  vsid = vsid space (segment_of page);
  primary = group space page false;
  secondary = group space page true;
  first = entry_word space page false;
  alternate = entry_word space page true;
}
