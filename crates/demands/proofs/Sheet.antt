-- The bench sheet's cases 1 to 11, those of the comma, some messages, and what some answers say: each is computed from the definitions.
-- Assumes nothing.
use mathlib.Core.Path.{refl}
use Rattle.rules.specs.Bytes.{total, one_of, every, same}
use Rattle.rules.specs.Numbers.{decimal_from, padded, padded_number, pointed, pointed_number, is_hex_digit, hex_digit_number}
use Rattle.rules.specs.Codes.{is_code, is_ack_code, is_command, is_ack}
use Rattle.rules.specs.Status.{joined, is_status, comma_in, status_frame, readable, fields_in_range, status_in_range, status_of}
use Rattle.rules.specs.Sentences.{are_decimals, between_commas, fit, gives_sums, in_range02, in_range03, is02, is03, is05, is_temperature, numbers02, numbers03, sentence02, sentence03, temperature, is_payload, is_payload_byte, is_sentence, sentence05, sum1_from, sum2_from}
use Rattle.rules.specs.Messages.{behind, is_message, is_body, is_body_byte, is_letter, capital, letter_run, word_from, as_letters, is_number, are_pairs, clock_of, clock_in_range, days_in}
use Rattle.rules.specs.Answers.{read_family1, read_family2, read_family3, read_family4, read_one, read_texts, read_body}
use Rattle.stream_rules.specs.Heads.{head, undecided, spe_undecided, inner_run}
use Rattle.stream_rules.specs.Rule.{rule, look, call}
use Rattle.stream_rules.specs.Streams.{fed, shut, fresh}
use Rattle.demands.specs.Bench.{BenchSheet}
use Rattle.demands.specs.Said.{SaidSheet}

pub sheet : BenchSheet
unfolding read_one read_family1 is_status is_ack is_ack_code is_code one_of total same every joined comma_in status_frame readable fields_in_range status_in_range status_of padded padded_number pointed pointed_number decimal_from read_family2 read_texts is_sentence is_payload is_payload_byte gives_sums sum1_from sum2_from is_hex_digit hex_digit_number between_commas is05 sentence05 read_family3 is_command rule look call head undecided spe_undecided inner_run fed shut fresh read_family4 read_body behind is_message is_body is_body_byte is_letter capital letter_run word_from as_letters is_number are_pairs clock_of clock_in_range days_in
sheet = record {
  case1 = refl;
  case2 = refl;
  case3 = refl;
  case4 = refl;
  case4_closed = refl;
  case4_closed_again = refl;
  case4_done = refl;
  case4_on = refl;
  case4_on_again = refl;
  case4_comma = refl;
  case4_comma_on = refl;
  case4_comma_on_again = refl;
  cut = refl;
  cut_closed = refl;
  cut_begun = refl;
  cut_begun_closed = refl;
  cut_on = refl;
  cut_listed = refl;
  case5_total = refl;
  case5 = refl;
  case5_comma = refl;
  case5_comma_found = refl;
  case6 = refl;
  case7 = refl;
  case8 = refl;
  case9 = refl;
  case10 = refl;
  case10_command = refl;
  case11 = (refl, refl, refl, refl);
  case11_listed = λ family. refl;
  messages_found = refl;
  messages_bad = refl;
  message_other = refl;
  leap_year = refl;
  common_year = refl;
  no_letter_waits = (refl, refl);
  one_too_many = (refl, refl);
}

pub said_sheet : SaidSheet
unfolding read_one read_family1 is_status is_ack is_ack_code is_code one_of total same every joined comma_in status_frame readable fields_in_range status_in_range status_of padded padded_number pointed pointed_number decimal_from read_family2 read_texts is_sentence is_payload is_payload_byte gives_sums sum1_from sum2_from is_hex_digit hex_digit_number between_commas is05 sentence05 read_family3 is_command rule look call head undecided spe_undecided inner_run fed shut fresh is02 is03 sentence02 sentence03 are_decimals is_temperature temperature fit numbers02 numbers03 in_range02 in_range03 read_family4 read_body behind is_message is_body is_body_byte is_letter capital letter_run word_from as_letters is_number are_pairs clock_of clock_in_range days_in
said_sheet = record {
  case4 = refl;
  case4_on = refl;
  case4_on_again = refl;
  case4_done = refl;
  case5 = refl;
  case5_comma = refl;
  case6 = refl;
  case7 = refl;
  case10 = refl;
  no-family = refl;
  printed_02 = refl;
  printed_03 = refl;
  printed_SN = refl;
  printed_RV = refl;
  printed_CC = refl;
  printed_r_v = refl;
  printed_FT = refl;
  printed_KPA = refl;
  printed_11 = refl;
}
