use Rattle.std.proofs.Common.{◌≡◌, sym, subst, rules}
use Rattle.carol_syntax.specs.Files.{file_tree}
use Rattle.carol_print.specs.Pieces.{text_of}
use Rattle.carol_print.specs.Canonical.{canonical}
use Rattle.carol_print.specs.ReadBack.{IsTextOf, IsReadBack}
use Rattle.carol_print.proofs.Back.{text_is_file, text_is_read_back}
use Rattle.carol_print.proofs.whole.print.Goals as goal

pub returns-clause-file : goal.returns-clause-file
returns-clause-file c =
    let e : c.push_file.new.out.items ≡ text_of (canonical (file_tree c.args.file.now)) = search rules in
    subst (λ t. IsTextOf t (file_tree c.args.file.now)) (sym e) (text_is_file c.canonical_is_laid_out.ensures c.laid_out.ensures c.canonical_is_read.ensures (file_tree c.args.file.now) c.requires)

pub returns-clause-read_back : goal.returns-clause-read_back
returns-clause-read_back c =
    let e : c.push_file.new.out.items ≡ text_of (canonical (file_tree c.args.file.now)) = search rules in
    subst (λ t. IsReadBack t (file_tree c.args.file.now)) (sym e) (text_is_read_back c.canonical_is_laid_out.ensures c.laid_out.ensures c.canonical_is_read.ensures c.one_text.ensures c.one_bad.ensures.none c.one_outcome.ensures c.small_is_read.ensures (file_tree c.args.file.now) c.requires)
