use Rattle.std.proofs.Common.{arith}
use Rattle.carol_text.proofs.Found.{number_found, number_only}
use Rattle.carol_text.proofs.read.wide_number.Goals as goal

pub returns-clause-found : goal.returns-clause-found
returns-clause-found c = number_found c.front_number.result c.args.most c.args.bytes.now (omega arith) c.front_number.ensures

pub returns-clause-only : goal.returns-clause-only
returns-clause-only c = number_only c.front_number.result c.args.most c.args.bytes.now (omega arith) c.front_number.ensures
