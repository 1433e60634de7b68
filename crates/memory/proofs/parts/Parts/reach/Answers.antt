use Rattle.std.proofs.Common.{sym, refl, ap, ◌∙◌, subst, ⊎_elim}
use Rattle.std.proofs.lemmas.Bool.{both_ways}
use Rattle.pmap.specs.Meaning.{Accessed, Same}
use Rattle.rules.specs.State.{lie}
use Rattle.rules.specs.Refusals.{wants_frame}
use Rattle.rules.proofs.Accepted.{covered}
use Rattle.memory_meaning.specs.Ready.{serves}
use Rattle.memory_meaning.proofs.Reached.{page_at_is, right_is, serves_miss, reaches_hit}
use Rattle.memory_meaning.proofs.Same.{ready_same, access_refusal_is, after_miss}
use Rattle.memory.specs.Whole.{state}
use Rattle.memory.proofs.parts.Parts.reach.Goals as goal

pub fault-requires : goal.fault-requires
fault-requires g c =
    let v = g.P.Pmap.view in
    let m = c.args.self.now in
    let s = state v m in
    let w = v c.access.new.self in
    let told = c.in_ok-frame.ensures.meaning in
    let same : Same (v m.pmap) w = subst (Accessed (v m.pmap) w c.args.space c.args.page c.args.write) c.in_default-2.is told.1.1 in
    let cov = sym c.in-Some.ensures in
    record {
      whole = record { kept = c.in_ok-frame.ensures.kept; ready = ready_same (v m.pmap) w m.tables m.counts same c.requires.ready };
      covers = cov;
      right = λ t. right_is c.in-Some.region (covered s c.args.space c.args.page c.in-Some.region c.requires.ready.good cov).fits
          (λ o. ⊎_elim (λ y. y.1 o) (λ n. both_ways c.args.write n t) c.else-write.either);
      missed = ap (λ z. serves z c.args.write) (same.held c.args.space c.args.page) ∙ serves_miss ((v m.pmap).held c.args.space c.args.page) c.args.write (sym c.in_default-2.is ∙ told.1.0);
    }

pub returns-in_default-2 : goal.returns-in_default-2
returns-in_default-2 g c =
    let v = g.P.Pmap.view in
    let m = c.args.self.now in
    let w = v c.access.new.self in
    let end = c.fault.new.self in
    let told = c.in_ok-frame.ensures.meaning in
    let same : Same (v m.pmap) w = subst (Accessed (v m.pmap) w c.args.space c.args.page c.args.write) c.in_default-2.is told.1.1 in
    record {
      reaches = after_miss (v m.pmap) w (v end.pmap) m.tables m.counts (state v end) c.args.space c.args.page c.args.write c.in-Some.region c.fault.result
          same told.0 (sym c.in-Some.ensures) (λ t o. ⊎_elim (λ y. y.1 o) (λ n. both_ways c.args.write n t) c.else-write.either) c.fault.ensures.reaches;
      kept = c.fault.ensures.kept;
    }

pub returns : goal.returns
returns g c =
    let v = g.P.Pmap.view in
    let m = c.args.self.now in
    let s = state v m in
    let w = v c.access.new.self in
    let told = c.in_ok-frame.ensures.meaning in
    let cov = sym c.in-Some.ensures in
    let reached = reaches_hit (v m.pmap) w s c.args.space c.args.page c.in-Hit.frame c.args.write c.requires.ready.fits refl (sym c.in-Hit.is ∙ told.1.0)
    (subst (Accessed (v m.pmap) w c.args.space c.args.page c.args.write) c.in-Hit.is told.1.1) in
    record {
      reaches = (
        access_refusal_is s c.args.space c.args.page c.args.write c.in-Some.region told.0 cov (λ t o. ⊎_elim (λ y. y.1 o) (λ n. both_ways c.args.write n t) c.else-write.either)
            ∙ ap (λ z. wants_frame s (lie s z)) (sym (page_at_is s c.args.space c.args.page c.in-Some.region cov)) ∙ reached.room,
        reached,
      );
      kept = c.in_ok-frame.ensures.kept;
    }
