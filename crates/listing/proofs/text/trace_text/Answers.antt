-- The lines, and behind them the counts.
use Rattle.std.proofs.Common.{◌≡◌, ℕ, List, [], ◌++◌, length, codes, decimal}
use Rattle.trace.specs.declared.record.Entry.{Entry}
use Rattle.listing.specs.Text.{lines, turned_away, trace_text}
use Rattle.listing.proofs.text.trace_text.Goals as goal

built : (es lent : List Entry) (frames refused : ℕ) (base front out : List ℕ)
    → out ≡ front ++ (codes "listed: frame count " ++ (decimal frames ++ (codes ", records " ++ (decimal (length lent) ++ (codes ", turned away " ++ (decimal refused ++ codes "\n"))))))
    → front ≡ base ++ lines lent → base ≡ [] → refused ≡ turned_away lent → lent ≡ es → out ≡ trace_text frames es
built es lent frames refused base front out o f b t l = rw (o, f, b, t, l)

pub returns : goal.returns
returns c =
    built _ _ _ _ _ _ _ c.in_ok-writeln.ensures.bytes c.in_ok-push_lines.ensures c.new-text.ensures.bytes c.turned_away-refused.ensures c.as_slice-entries.ensures.value
