-- The laws of reading that a reader of a longer text cites for its parts: what is read is spelled
-- so, and what is spelled so is read, whatever follows that is no digit.
pub use Rattle.carol_text.proofs.Words.{bind_ok, guard_ok, ok_parts, word_takes, word_again}
pub use Rattle.carol_text.proofs.Numbers.{number_takes, number_again, integer_takes, integer_again, decimal_first}
