use Rattle.std.proofs.Common.{◌≡◌, ◌+◌, ◌∷◌, [], ◌++◌, ℕ, List, drop, length, arith, subst, sym, ◌∙◌, ap}
use Rattle.carol_event.specs.declared.event.Event.{Event}
use Rattle.carol_event.specs.Numbers.{Each, HasNumbers}
use Rattle.carol_vault_image.specs.Records.{IsTaken, records}
use Rattle.carol_vault_image.proofs.Readings.{each_push, length-records-push, more_are, more_within}
use Rattle.carol_vault_image.proofs.image.read_image.Goals as goal

pub loop-taken-preserved : goal.loop-taken-preserved
loop-taken-preserved c =
    let file = c.args.bytes.now in
    let end = c.loop-taken.end in
    let events = c.loop-taken.events.items in
    let event = c.in-Some.taken.event in
    let used = c.in-Some.taken.used in
    let kept = c.loop-taken.invariant in
    let taken : IsTaken (drop end file) c.in-Some.taken = subst (λ (l : List ℕ). IsTaken l c.in-Some.taken) c.split_at.ensures.back c.in-Some.ensures.taken in
    let pushed : c.push.new.self.items ≡ events ++ event ∷ [] = c.in_ok-push.ensures.items in
    record {
      are = more_are file events event end used kept.are taken.are ∙ ap (λ (es : List Event). records es ++ drop (end + used) file) (sym pushed);
      fit = subst (λ (es : List Event). Each HasNumbers es) (sym pushed) (each_push events event kept.fit taken.fits);
      end_is = omega (arith, kept.end_is, taken.used_is, length-records-push events event, ap (λ (es : List Event). length (records es)) pushed);
      within = more_within file event end used kept.within taken.are taken.used_is;
    }
