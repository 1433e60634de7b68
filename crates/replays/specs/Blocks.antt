-- What became of each record of a replay, and the text of a block, as bytes. Assumes nothing.
use Rattle.std.specs.Prelude.{ℕ, zero, suc, ◌+◌, ◌/◌, ◌%◌, Bool, true, false, List, [], ◌∷◌, ◌++◌, drop, Ok, Err, codes, decimal, Result}
use Rattle.refusal.specs.declared.code.Code.{Code}
use Rattle.refusal.specs.declared.file.FileRefusal.{FileRefusal}
use Rattle.refusal.specs.Codes.{file_code, memory_code}
use Rattle.refusal.specs.Letters.{code_words}
use Rattle.calls.specs.declared.Call.{Call}
use Rattle.trace.specs.declared.record.Entry.{Entry}
use Rattle.rules.specs.declared.answer.Answer.{Answer}
use Rattle.rules.specs.declared.answer.Answer.TheVariants.{Done, Read as ReadAnswer, Wrote, Wired, Synced}
use Rattle.rules.specs.declared.counts.Counts.{Counts}
use Rattle.rules.specs.State.{State, is_modified}
use Rattle.rules.specs.Rules.{Reply}
use Rattle.replays.specs.declared.refused.Inner.{Inner}
use Rattle.replays.specs.declared.refused.Inner.TheVariants.{File, Memory}
use Rattle.replays.specs.declared.refused.ReplayRefusal.{ReplayRefusal}

-- the number and the layer are those of the inner refusal
abbrev pub inner_code : Inner → Code
inner_code (File e) = file_code e
inner_code (Memory e) = memory_code e

abbrev pub replay_code : ReplayRefusal → Code
replay_code r = inner_code r.inner

-- a record that the reader turned away is refused with the reader's refusal, any other as the memory answered
abbrev pub memory_outcome : ℕ → Reply → Result Answer ReplayRefusal
memory_outcome n (Ok a) = Ok a
memory_outcome n (Err e) = Err (record { number = n; inner = Memory e })

abbrev pub outcome_by : ℕ → Result Call FileRefusal → Reply → Result Answer ReplayRefusal
outcome_by n (Ok r) reply = memory_outcome n reply
outcome_by n (Err e) reply = Err (record { number = n; inner = File e })

abbrev pub outcome_of : Entry → Reply → Result Answer ReplayRefusal
outcome_of e reply = outcome_by e.number e.content reply

-- the number of a record and what its refusal is known by
abbrev pub refusal_words : ReplayRefusal → List ℕ
refusal_words r = decimal r.number ++ (codes " " ++ code_words (replay_code r))

-- the line of a record: a read's word, or a refusal; an accepted call of another kind has none
abbrev pub refused_line : ReplayRefusal → List ℕ
refused_line r = codes "refused " ++ (refusal_words r ++ codes "\n")

abbrev pub read_line : ℕ → ℕ → List ℕ
read_line n word = codes "read " ++ (decimal n ++ (codes " " ++ (decimal word ++ codes "\n")))

abbrev pub outcome_line : ℕ → Result Answer ReplayRefusal → List ℕ
outcome_line n (Err r) = refused_line r
outcome_line n (Ok Done) = []
outcome_line n (Ok (ReadAnswer x)) = read_line n x.word
outcome_line n (Ok (Wrote x)) = []
outcome_line n (Ok (Wired x)) = []
outcome_line n (Ok (Synced x)) = []

-- each record that the reader did not turn away has the next reply
abbrev pub next_reply : List Reply → Reply
next_reply [] = Ok Done
next_reply (r ∷ rs) = r

abbrev pub used : Result Call FileRefusal → ℕ
used (Ok r) = 1
used (Err e) = 0

unfoldable pub lines_of : List Entry → List Reply → List ℕ
lines_of [] rs = []
lines_of (e ∷ es) rs = outcome_line e.number (outcome_of e (next_reply rs)) ++ lines_of es (drop (used e.content) rs)

-- the counts
abbrev pub access_counts : Counts → List ℕ
access_counts n =
    codes "accesses " ++ (decimal (n.hits + n.soft + n.hard) ++ (codes " hits " ++ (decimal n.hits ++ (codes " soft " ++ (decimal n.soft ++ (codes " hard " ++ decimal n.hard))))))

abbrev pub page_counts : Counts → List ℕ
page_counts n = codes " loads " ++ (decimal n.loads ++ (codes " evicted " ++ (decimal n.evicted ++ (codes " written " ++ (decimal n.stored ++ codes "\n")))))

-- a line for each of the first n object pages that is modified
abbrev pub dirty_line : ℕ → List ℕ
dirty_line x = codes "dirty " ++ (decimal (x / 256) ++ (codes " " ++ (decimal (x % 256) ++ codes "\n")))

abbrev pub dirty_line_if : Bool → ℕ → List ℕ
dirty_line_if true x = dirty_line x
dirty_line_if false x = []

unfoldable pub dirty_lines : (ℕ → Bool) → ℕ → List ℕ
dirty_lines modified zero = []
dirty_lines modified (suc n) = dirty_lines modified n ++ dirty_line_if (modified n) n

-- a block: the machine's name, the lines of the records, the counts, the modified pages
abbrev pub block_head : List ℕ → List ℕ
block_head name = codes "machine " ++ (name ++ codes "\n")

abbrev pub block_tail : Counts → (ℕ → Bool) → List ℕ
block_tail counts modified = access_counts counts ++ (page_counts counts ++ dirty_lines modified 2048)

abbrev pub block_text : List ℕ → List Entry → List Reply → Counts → (ℕ → Bool) → List ℕ
block_text name entries replies counts modified = block_head name ++ (lines_of entries replies ++ block_tail counts modified)

-- the same of a memory's state
abbrev pub tail_of : State → List ℕ
tail_of s = block_tail s.counts (is_modified s)

abbrev pub block_of : List ℕ → List Entry → List Reply → State → List ℕ
block_of name entries replies s = block_text name entries replies s.counts (is_modified s)
