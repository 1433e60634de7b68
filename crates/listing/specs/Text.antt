-- The text of a listing, as bytes: what the program prints of a file. Assumes nothing of the file.
use Rattle.std.specs.Prelude.{ℕ, List, ◌++◌, length, count_by, is_err, Ok, Err, codes, decimal, Result}
use Rattle.std.specs.List.{flat_map}
use Rattle.refusal.specs.declared.file.FileRefusal.{FileRefusal}
use Rattle.trace.specs.declared.record.Entry.{Entry}
use Rattle.trace.specs.Format.{checked, entries_of}
use Rattle.trace.specs.Words.{entry_words, refused_text}

-- a line for each entry
abbrev pub lines : List Entry → List ℕ
lines es = flat_map (λ e. entry_words e ++ codes "\n") es

-- how many entries are turned away
abbrev pub turned_away : List Entry → ℕ
turned_away es = count_by (λ e. is_err e.content) es

-- the lines of a trace's entries, and then its counts
abbrev pub trace_text : ℕ → List Entry → List ℕ
trace_text frames entries =
    lines entries ++ (codes "listed: frame count " ++ (decimal frames ++ (codes ", records " ++ (decimal (length entries)
    ++ (codes ", turned away " ++ (decimal (turned_away entries) ++ codes "\n"))))))

-- of a file that is turned away, only the number of its refusal
abbrev pub text_by : Result ℕ FileRefusal → List Entry → List ℕ
text_by (Err e) entries = refused_text e
text_by (Ok frames) entries = trace_text frames entries

abbrev pub listing_text : List ℕ → List ℕ
listing_text bytes = text_by (checked bytes) (entries_of bytes)
