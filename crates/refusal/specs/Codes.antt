-- The number and the layer of every refusal. Assumes nothing.
-- Layer File gives 1 to 4, layer Memory 5 to 14, layer Pmap 15 and 16.
use Rattle.refusal.specs.declared.code.Code.{Code}
use Rattle.refusal.specs.declared.code.Layer.TheVariants.{File, Memory, Pmap}
use Rattle.refusal.specs.declared.file.FileRefusal.{FileRefusal}
use Rattle.refusal.specs.declared.file.FileRefusal.TheVariants.{Size, Cut, Operation, Field}
use Rattle.refusal.specs.declared.pmap.PmapRefusal.{PmapRefusal}
use Rattle.refusal.specs.declared.pmap.PmapRefusal.TheVariants.{Range, WiredFull}
use Rattle.refusal.specs.declared.memory.MemoryRefusal.{MemoryRefusal}
use Rattle.refusal.specs.declared.memory.MemoryRefusal.TheVariants.{CallLimit, Range as CallRange, Overlap, RegionsFull, NoRegion, ReadOnly, Wired, NotWired, WiredFull as PlacesFull, NoFrame, Pmap as FromPmap}

abbrev pub file_code : FileRefusal → Code
file_code Size = record { number = 1; layer = File }
file_code Cut = record { number = 2; layer = File }
file_code Operation = record { number = 3; layer = File }
file_code Field = record { number = 4; layer = File }

abbrev pub pmap_code : PmapRefusal → Code
pmap_code Range = record { number = 15; layer = Pmap }
pmap_code WiredFull = record { number = 16; layer = Pmap }

abbrev pub memory_code : MemoryRefusal → Code
memory_code CallLimit = record { number = 5; layer = Memory }
memory_code CallRange = record { number = 6; layer = Memory }
memory_code Overlap = record { number = 7; layer = Memory }
memory_code RegionsFull = record { number = 8; layer = Memory }
memory_code NoRegion = record { number = 9; layer = Memory }
memory_code ReadOnly = record { number = 10; layer = Memory }
memory_code Wired = record { number = 11; layer = Memory }
memory_code NotWired = record { number = 12; layer = Memory }
memory_code PlacesFull = record { number = 13; layer = Memory }
memory_code NoFrame = record { number = 14; layer = Memory }
memory_code (FromPmap r) = pmap_code r
