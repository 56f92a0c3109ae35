-- The words that the random source of an end answers.
use Rattle.std.proofs.Common.{◌≡◌, sym, ap, ◌∙◌}
use Rattle.std.specs.Prelude.{replicate}
use Rattle.rand_core.specs.Stream.{Stream, u64_call}
use Rattle.quic_connection_parts.specs.Drawn.{words_of}
use Rattle.quic_keys.specs.declared.words.Source.{Source}
use Rattle.quic_keys.specs.declared.words.Words.{Words}
use Rattle.quic_keys.specs.Words.{stream_from, source_stream, words_from}
use Rattle.quic_keys.proofs.Constant.{words_are}

-- so what answers as a source does answers its words
pub words_same : (source : Source) (random : Words) → stream_from random ≡ source_stream source → words_of stream_from random ≡ words_from source
words_same source random is = λ i n. (ap (λ (s : Stream). s.u64_after (replicate n u64_call)) is ∙ sym (words_are source n)) i
