use Rattle.std.proofs.Common.{ℕ, ◌≡◌, ◌+◌, [], ◌∷◌, ◌++◌, length, refl, ◌∙◌, ap, subst}
use Rattle.carol_formula.specs.Linear.{Linear}
use Rattle.carol_cert.specs.declared.step.RowStep.{RowStep}
use Rattle.carol_cert.specs.declared.step.RowStep.TheVariants.{Given}
use Rattle.carol_linear.specs.Path.{frame_row}
use Rattle.carol_linear.specs.Near.{Adds}
use Rattle.carol_linear.specs.State.{Keeps, IsSame, HasEntered}
use Rattle.carol_linear.specs.declared.branch.Frame.{Frame}
use Rattle.carol_linear.specs.declared.state.State.{State}
use Rattle.carol_linear.proofs.state.State.enter.Goals as goal

entered : (old new : State) (f last : Frame) (row : Linear) (name : RowStep) → new.frames.items ≡ old.frames.items ++ last ∷ [] → Adds old.place new.place row name last.covered → row ≡ frame_row last → name ≡ Given (old.claims + length old.frames.items) → Keeps old new → IsSame last f → HasEntered old new f
entered old new f last row name frames adds is number keeps same = record {
  last = last;
  enters = record {
    frames = frames;
    adds = subst (λ (r : Linear). Adds old.place new.place r (Given (old.claims + length old.frames.items)) last.covered) is (subst (λ (n : RowStep). Adds old.place new.place row n last.covered) number adds);
    keeps = keeps;
  };
  same = same;
}

pub returns : goal.returns
returns c =
    let s = c.args.self.now in
    entered s _ c.args.frame _ c.in_ok-row.field-0.0 c.in_ok-name.name c.in_ok-push.ensures.items c.in_ok-frame.ensures c.in_ok-row.ensures
    (c.in_ok-name.ensures ∙ ap (λ (k : ℕ). Given (s.claims + k)) (c.len.ensures ∙ s.frames.ok.0))
    (record { claims = refl; left = refl; has_gap = refl })
    (record { variable = refl; k = refl; low = refl })
