use Rattle.std.proofs.Common.{◌≡◌, ℕ, List, true, false, refl}
use Rattle.carol_grammar.specs.Rule.{upper}
use Rattle.carol_grammar.specs.Sound.{is_sound, is_sound_at, is_led, IsSound}
use Rattle.carol_grammar.specs.Terminals.{number_of, class_of}
use Rattle.carol_grammar.specs.Rules.{carol, file, literal, ending, name, num, int, bit, whole_kind, flag_field, field, set_cell, record_cell, cell, member, path, outcome_value, dotted, plain_value, sized, size_value, value, times_value, multiple, product, next_product, first_product, term, sign, comparison, atom_literal, conjunction, formula, denial, nested_literal, change, atom, query, release, binding, issue, plain, body, answer, choice, guard, param, some_params, params, op, program, some_ints, arguments, times, command, session, scene, script_line, script, sequel, some_sequel, staged, some_stage}

pub sound : (bytes : List ℕ) → IsSound (carol bytes)
unfolding number_of class_of name num int bit whole_kind flag_field field set_cell record_cell cell member path outcome_value dotted plain_value sized size_value value times_value multiple product next_product first_product term sign comparison atom_literal conjunction formula denial nested_literal change atom query release binding issue plain body answer choice
sound bytes = record {
  lowest = λ v. elim v as (λ w. is_sound_at (carol bytes) false w ((carol bytes).lowest w) ≡ true) [ literal ↦ refl | ending ↦ refl ];
  above = λ v. elim v as (λ w. is_sound_at (carol bytes) true w (upper (carol bytes) w) ≡ true) [ literal ↦ refl | ending ↦ refl ];
  led = λ v. elim v as (λ w. is_led (upper (carol bytes) w) ≡ true) [ literal ↦ refl | ending ↦ refl ];
}

pub file_sound : (bytes : List ℕ) (tail : ℕ) → is_sound (carol bytes) true (file bytes tail) ≡ true
unfolding number_of class_of file name num int bit whole_kind flag_field field set_cell record_cell cell member path outcome_value dotted plain_value sized size_value value times_value multiple product next_product first_product term sign comparison atom_literal conjunction formula denial nested_literal change atom query release binding issue plain body answer choice guard param some_params params op program some_ints arguments times command session scene script_line script sequel some_sequel staged some_stage
file_sound bytes tail = refl
