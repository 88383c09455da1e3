use Rattle.std.proofs.Common.{ap, sym}
use Rattle.carol_syntax.specs.Keywords.{keyword_kinds, of_length}
use Rattle.carol_syntax.proofs.Lengths.{no_others}
use Rattle.carol_syntax.proofs.kind.keywords.Goals as goal

pub returns-then-letters-eq2 : goal.returns-then-letters-eq2
unfolding of_length
returns-then-letters-eq2 c = ap (λ n. of_length n keyword_kinds) (sym c.if-letters-eq2.true)

pub returns-then-letters-eq3 : goal.returns-then-letters-eq3
unfolding of_length
returns-then-letters-eq3 c = ap (λ n. of_length n keyword_kinds) (sym c.if-letters-eq3.true)

pub returns-then-letters-eq4 : goal.returns-then-letters-eq4
unfolding of_length
returns-then-letters-eq4 c = ap (λ n. of_length n keyword_kinds) (sym c.if-letters-eq4.true)

pub returns-then-letters-eq5 : goal.returns-then-letters-eq5
unfolding of_length
returns-then-letters-eq5 c = ap (λ n. of_length n keyword_kinds) (sym c.if-letters-eq5.true)

pub returns-then-letters-eq6 : goal.returns-then-letters-eq6
unfolding of_length
returns-then-letters-eq6 c = ap (λ n. of_length n keyword_kinds) (sym c.if-letters-eq6.true)

pub returns-then-letters-eq7 : goal.returns-then-letters-eq7
unfolding of_length
returns-then-letters-eq7 c = ap (λ n. of_length n keyword_kinds) (sym c.if-letters-eq7.true)

pub returns-then-letters-eq8 : goal.returns-then-letters-eq8
unfolding of_length
returns-then-letters-eq8 c = ap (λ n. of_length n keyword_kinds) (sym c.if-letters-eq8.true)

pub returns-then-letters-eq9 : goal.returns-then-letters-eq9
unfolding of_length
returns-then-letters-eq9 c = ap (λ n. of_length n keyword_kinds) (sym c.if-letters-eq9.true)

pub returns-then-letters-eq10 : goal.returns-then-letters-eq10
unfolding of_length
returns-then-letters-eq10 c = ap (λ n. of_length n keyword_kinds) (sym c.if-letters-eq10.true)

pub returns : goal.returns
returns c = no_others c.args.letters c.if-letters-eq2.false c.if-letters-eq3.false c.if-letters-eq4.false c.if-letters-eq5.false c.if-letters-eq6.false c.if-letters-eq7.false c.if-letters-eq8.false c.if-letters-eq9.false c.if-letters-eq10.false
