use Rattle.std.proofs.Common.{◌≡◌, take, ◌∙◌, ap, refl}
use Rattle.carol_picture.proofs.Ranges.{take_short}
use Rattle.carol_picture.proofs.places.session_x.Goals as goal

pub returns : goal.returns
returns c =
    let plans = c.args.plans.now in
    let lower : c.split_at.result.0.now ≡ take c.args.session plans =
    c.split_at.ensures.front ∙ (ap (λ n. take n plans) c.min.ensures ∙ take_short c.args.session plans) in
    rw (c.lane_x.ensures.value, c.sessions_at.ensures.value, lower, c.home_of-home.ensures) refl
