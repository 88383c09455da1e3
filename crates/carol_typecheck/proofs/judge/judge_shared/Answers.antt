use Rattle.std.proofs.Common.{sym, ap, ◌∙◌, subst}
use Rattle.carol_obligation.specs.Keeping.{AreDecidable}
use Rattle.carol_typecheck.proofs.Scanning.{decidable_pieces, told_of_all}
use Rattle.carol_typecheck.proofs.judge.judge_shared.Goals as goal

pub collect-requires-clause-ready : goal.collect-requires-clause-ready
collect-requires-clause-ready g c κs within =
    let slice = ap (λ it. it.base.slice.now) c.map.ensures.base ∙ ap (λ it. it.slice.now) c.with_min_len.ensures.base ∙ c.par_chunks.ensures.slice in
    let ready = decidable_pieces _ _ c.args.obligations.now slice c.requires in
    λ k d few piece is. (subst AreDecidable (sym is) (ready k d few), λ answer told. tt)

pub returns : goal.returns
returns g c =
    let slice = ap (λ it. it.base.slice.now) c.map.ensures.base ∙ ap (λ it. it.slice.now) c.with_min_len.ensures.base ∙ c.par_chunks.ensures.slice in
    let h = c.in_ok-answers.ensures in
    told_of_all _ _ c.args.obligations.now h.1.0 c.in_ok-answers.answers.items h.0 c.first_of.result slice h.1.1 h.1.2 h.2 c.first_of.ensures
