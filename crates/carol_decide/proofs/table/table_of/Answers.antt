use Rattle.std.proofs.Common.{◌≡◌, ◌++◌, [], ◌∷◌, length, subst, arith}
use Rattle.std.proofs.lemmas.List.{length-map}
use Rattle.carol_elimination.specs.Due.{rows_at}
use Rattle.carol_elimination.specs.Entries.{terms_of}
use Rattle.carol_decide.specs.Sizes.{IsReady, OfDifferences}
use Rattle.carol_decide.specs.Piece.{claim_of_piece, claims_in}
use Rattle.carol_decide.specs.Table.{own_names}
use Rattle.carol_decide.proofs.Lists.{Each-at}
use Rattle.carol_decide.proofs.Looking.{stands_piece}
use Rattle.carol_decide.proofs.Filling.{fill_rows, fill_names, filled}
use Rattle.carol_decide.proofs.table.table_of.Goals as goal

pub loop-at-preserved : goal.loop-at-preserved
loop-at-preserved c =
    let stands = stands_piece c.args.pieces.now c.loop-at.at c.index-pieces-at.result c.loop-at-test.true c.index-pieces-at.is in
    record {
      rows = fill_rows c.args.pieces.now c.loop-at.at c.index-pieces-at.result (terms_of c.loop-at.table.rows.items) (terms_of c.add.new.self.rows.items) c.loop-at-test.true
          (subst (λ p. terms_of c.add.new.self.rows.items ≡ terms_of c.loop-at.table.rows.items ++ rows_at (claim_of_piece p ∷ [])) c.index-pieces-at.is c.in_ok-add.ensures.rows) c.loop-at.invariant.rows;
      names = fill_names c.args.pieces.now c.loop-at.at c.index-pieces-at.result c.loop-at.table.names.items c.add.new.self.names.items c.loop-at-test.true
          (subst (λ p. c.add.new.self.names.items ≡ c.loop-at.table.names.items ++ own_names c.loop-at.at (claim_of_piece p)) c.index-pieces-at.is c.in_ok-add.ensures.names) c.loop-at.invariant.names;
      narrow = c.in_ok-add.ensures.narrow c.loop-at.invariant.narrow;
      differences = λ d. c.in_ok-add.ensures.differences (Each-at OfDifferences (claims_in c.args.pieces.now) c.loop-at.at (claim_of_piece c.index-pieces-at.result) stands d) (c.loop-at.invariant.differences d);
    }

pub returns : goal.returns
returns c =
    let all : c.loop-at.at ≡ length (claims_in c.args.pieces.now) = omega (arith, length-map c.args.pieces.now claim_of_piece) in
    filled (claims_in c.args.pieces.now) c.loop-at.at c.loop-at.table all c.loop-at.invariant

pub add-requires : goal.add-requires
add-requires c =
    Each-at IsReady (claims_in c.args.pieces.now) c.loop-at.at (claim_of_piece c.index-pieces-at.result) (stands_piece c.args.pieces.now c.loop-at.at c.index-pieces-at.result c.loop-at-test.true c.index-pieces-at.is) c.requires.ready
