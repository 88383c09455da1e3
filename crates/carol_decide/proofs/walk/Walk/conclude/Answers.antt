use Rattle.std.proofs.Common.{◌+◌, subst}
use Rattle.carol_formula.specs.Numbers.{number_at}
use Rattle.carol_cert.specs.Proof.{proof_of}
use Rattle.carol_decide.specs.Piece.{claims_in}
use Rattle.carol_decide.specs.Frames.{turns_on}
use Rattle.carol_decide.specs.Table.{IsFound}
use Rattle.carol_decide.proofs.Meeting.{holds_from}
use Rattle.carol_decide.proofs.Walking.{open_spent, not_all}
use Rattle.carol_decide.proofs.walk.Walk.conclude.Goals as goal

pub returns-in-Model : goal.returns-in-Model
returns-in-Model c = λ claim root at found.
    let here = subst (IsFound claim (claims_in c.args.self.now.pieces.items) c.args.self.now.left) c.in-Model.is found in
    (record { holds = holds_from (number_at c.in-Model.values) claim here; fits = here }, λ d e. tt)

pub returns-in_ok-tree-in-Spent : goal.returns-in_ok-tree-in-Spent
returns-in_ok-tree-in-Spent c = λ claim root at found.
    let here = subst (IsFound claim (claims_in c.args.self.now.pieces.items) c.args.self.now.left) c.in-Spent.is found in
    let leaves = turns_on c.args.self.now.frames.items + c.args.self.now.left in
    (c.in_ok-tree-in-Spent.ensures claim leaves (open_spent claim leaves c.args.self.now (proof_of c.in-Spent.tree) at here.0), λ d e. absurd (not_all claim leaves c.args.self.now at here.1 d))

pub returns-in-Wide : goal.returns-in-Wide
returns-in-Wide c = λ claim root at found.
    let here = subst (IsFound claim (claims_in c.args.self.now.pieces.items) c.args.self.now.left) c.in-Wide.is found in
    (here.0, λ d e. absurd (not_all claim (turns_on c.args.self.now.frames.items + c.args.self.now.left) c.args.self.now at here.1 d))

pub returns-in-Far : goal.returns-in-Far
returns-in-Far c = λ claim root at found.
    let here = subst (IsFound claim (claims_in c.args.self.now.pieces.items) c.args.self.now.left) c.in-Far.is found in
    (here.0, λ d e. absurd (not_all claim (turns_on c.args.self.now.frames.items + c.args.self.now.left) c.args.self.now at here.1 d))
