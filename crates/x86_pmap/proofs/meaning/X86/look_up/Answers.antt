use Rattle.std.proofs.Common.{◌≡◌, ap, ◌∙◌}
use Rattle.x86_words.specs.Walks.{linear}
use Rattle.x86_words.specs.Lookups.{lookup}
use Rattle.x86.specs.Reads.{state}
use Rattle.x86_pmap.proofs.Hardware.{hardware_sees}
use Rattle.x86_pmap.proofs.meaning.X86.look_up.Goals as goal

pub returns : goal.returns
returns c =
    let st = state c.args.self.now.board in
    let e : c.look_up.result ≡ lookup st.words (linear c.args.space c.args.page) =
    c.look_up.ensures ∙ ap (λ ws. lookup ws c.linear_page.result) c.words.ensures ∙ ap (lookup st.words) c.linear_page.ensures in
    record { words = e; sees = λ fits. e ∙ hardware_sees st c.requires c.args.space c.args.page fits }
