-- The payloads of the three sentences have one length each, whatever the record holds.
use Rattle.std.specs.Prelude.{◌≡◌, ◌++◌, refl, length}
use Rattle.rules.specs.Bytes.{ascii}
use Rattle.rules.specs.Numbers.{with_zeros}
use Rattle.rules.specs.Sentences.{numbers02, numbers03, texts02, texts03, texts05, decimals, commas, temperature_text}
use Rattle.rules.specs.declared.Sentence02.{Sentence02}
use Rattle.rules.specs.declared.Sentence03.{Sentence03}
use Rattle.rules.specs.declared.Sentence05.{Sentence05}

pub length02 : (r : Sentence02) → length (ascii "APA02" ++ commas (texts02 r)) ≡ 57
unfolding numbers02 decimals commas with_zeros
length02 r = refl

pub length03 : (r : Sentence03) → length (ascii "APA03" ++ commas (texts03 r)) ≡ 43
unfolding numbers03 decimals commas with_zeros temperature_text
length03 r = refl

pub length05 : (r : Sentence05) → length (ascii "APA05" ++ commas (texts05 r)) ≡ 26
unfolding texts05 commas
length05 r = refl
