-- The runs of machines with a bug meet the premises of the headline.
use Rattle.std.proofs.Common.{◌≡◌, [], ◌∷◌, None, refl, inl, inr}
use Rattle.quic_machine.specs.declared.run.ReadCall.{ReadCall}
use Rattle.quic_machine.specs.declared.run.Answer.TheVariants as answers
use Rattle.quic_headline.specs.Headline.{IsHonest}
use Rattle.quic_worked.specs.Worked.{run_with}
use Rattle.quic_worked.specs.Broken.{asked_run, tells_finished}
use Rattle.quic_worked.specs.Machines.{unaccepted, taken_again, all_dropped, refused_named, cut_frame, hidden_end, skipped_byte, long_opens, used_twice, told_early, taken_early, nothing_given, accepted_twice, accepted_last, other_stream}
use Rattle.quic_worked.specs.Losses.{wide_name, narrow_name, falling, all_named, changed_again}
use Rattle.quic_worked.proofs.OwnIds.{honest}

pub h_taken_again : (read : ReadCall) → read.id ≡ 0 → IsHonest (run_with read taken_again)
h_taken_again read e = honest (run_with read taken_again) (record { start = refl; keys = refl; client = (tt, (inl refl, (inl refl, (tt, (tt, (tt, (tt, (tt, tt)))))))); server = (tt, (tt, (tt, (tt, (tt, (tt, (tt, (inl e, tt)))))))) })

pub h_all_dropped : (read : ReadCall) → read.id ≡ 0 → IsHonest (run_with read all_dropped)
h_all_dropped read e = honest (run_with read all_dropped) (record { start = refl; keys = refl; client = (tt, (inl refl, (inl refl, (tt, (tt, (tt, (tt, tt))))))); server = (tt, (tt, (tt, (tt, (tt, (tt, (tt, tt))))))) })

pub h_refused_named : (read : ReadCall) → IsHonest (refused_named read)
h_refused_named read = honest (refused_named read) (record { start = refl; keys = refl; client = (tt, (inl refl, (inl refl, (tt, (tt, (tt, (tt, tt))))))); server = (tt, (tt, (tt, (tt, (tt, (tt, (tt, tt))))))) })

pub h_cut_frame : (read : ReadCall) → read.id ≡ 0 → IsHonest (run_with read cut_frame)
h_cut_frame read e = honest (run_with read cut_frame) (record { start = refl; keys = refl; client = (tt, (inl refl, (inl refl, (tt, (tt, (tt, (tt, (tt, tt)))))))); server = (tt, (tt, (tt, (tt, (tt, (tt, (tt, (inl e, tt)))))))) })

pub h_hidden_end : (read : ReadCall) → read.id ≡ 0 → IsHonest (run_with read hidden_end)
h_hidden_end read e = honest (run_with read hidden_end) (record { start = refl; keys = refl; client = (tt, (inl refl, (inl refl, (tt, (tt, (tt, (tt, (tt, tt)))))))); server = (tt, (tt, (tt, (tt, (tt, (tt, (tt, (inl e, tt)))))))) })

pub h_skipped_byte : (read : ReadCall) → read.id ≡ 0 → IsHonest (run_with read skipped_byte)
h_skipped_byte read e = honest (run_with read skipped_byte) (record { start = refl; keys = refl; client = (tt, (inl refl, (inl refl, (tt, (tt, (tt, (tt, (tt, tt)))))))); server = (tt, (tt, (tt, (tt, (tt, (tt, (tt, (inl e, tt)))))))) })

pub h_long_opens : IsHonest long_opens
h_long_opens = honest (long_opens) (record { start = refl; keys = refl; client = (tt, tt); server = (tt, tt) })

pub h_used_twice : (read : ReadCall) → IsHonest (used_twice read)
h_used_twice read = honest (used_twice read) (record { start = refl; keys = refl; client = (tt, (inl refl, (inl refl, (tt, (tt, tt))))); server = (tt, (tt, (tt, (tt, (tt, tt))))) })

pub h_told_early : (read : ReadCall) → IsHonest (told_early read)
h_told_early read = honest (told_early read) (record { start = refl; keys = refl; client = (tt, (inl refl, (inl refl, (tt, (tt, tt))))); server = (tt, (tt, (tt, (tt, (tt, tt))))) })

pub h_taken_early : (read : ReadCall) → IsHonest (taken_early read)
h_taken_early read = honest (taken_early read) (record { start = refl; keys = refl; client = (tt, (inl refl, (inl refl, (tt, (tt, (tt, tt)))))); server = (tt, (tt, (tt, (tt, (tt, (tt, tt)))))) })

pub h_nothing_given : (read : ReadCall) → IsHonest (nothing_given read)
h_nothing_given read = honest (nothing_given read) (record { start = refl; keys = refl; client = (tt, (inl refl, (inl refl, (tt, tt)))); server = (tt, (tt, (tt, (tt, tt)))) })

pub h_wide_name : (read : ReadCall) → IsHonest (wide_name read)
h_wide_name read = honest (wide_name read) (record { start = refl; keys = refl; client = (tt, (inl refl, (inl refl, (tt, (tt, (tt, (tt, tt))))))); server = (tt, (tt, (tt, (tt, (tt, (tt, (tt, tt))))))) })

pub h_narrow_name : (read : ReadCall) → IsHonest (narrow_name read)
h_narrow_name read = honest (narrow_name read) (record { start = refl; keys = refl; client = (tt, (inl refl, (inl refl, (tt, (tt, (tt, (tt, tt))))))); server = (tt, (tt, (tt, (tt, (tt, (tt, (tt, tt))))))) })

pub h_silent : (read : ReadCall) → IsHonest (asked_run read (answers.Event None ∷ []))
h_silent read = honest (asked_run read (answers.Event None ∷ [])) (record { start = refl; keys = refl; client = (tt, (inl refl, (inl refl, (tt, (tt, (tt, (tt, (tt, (tt, tt))))))))); server = (tt, (tt, (tt, (tt, (tt, (tt, (tt, (tt, (tt, tt))))))))) })

pub h_falling : IsHonest (falling)
h_falling = honest (falling) (record { start = refl; keys = refl; client = (tt, (tt, (tt, (inl refl, (inl refl, (tt, tt)))))); server = (tt, (tt, (tt, (tt, (tt, (tt, tt)))))) })

pub h_all_named : IsHonest (all_named)
h_all_named = honest (all_named) (record { start = refl; keys = refl; client = (tt, (inl refl, (inl refl, (tt, (tt, (tt, (tt, (tt, (tt, (tt, (tt, (tt, (tt, (tt, (tt, (tt, (tt, tt))))))))))))))))); server = (tt, (tt, (tt, (tt, (tt, (tt, (tt, (tt, (tt, (tt, (tt, (tt, (tt, (tt, (tt, (tt, (tt, tt))))))))))))))))) })

pub h_changed_again : (read : ReadCall) → read.id ≡ 0 → IsHonest (changed_again read)
h_changed_again read e = honest (changed_again read) (record { start = refl; keys = refl; client = (tt, (inl refl, (inl refl, (tt, (tt, (tt, (tt, (tt, (tt, (tt, (tt, (tt, (tt, (tt, (tt, (tt, (tt, (tt, (tt, (tt, tt)))))))))))))))))))); server = (tt, (tt, (tt, (tt, (tt, (tt, (tt, (tt, (tt, (tt, (tt, (tt, (tt, (tt, (tt, (tt, (tt, (tt, (tt, (inl e, tt)))))))))))))))))))) })

pub h_accepted_twice : IsHonest (accepted_twice)
h_accepted_twice = honest (accepted_twice) (record { start = refl; keys = refl; client = (tt, (tt, (inr (inl refl), (tt, (tt, (tt, (tt, (tt, tt)))))))); server = (tt, (tt, (tt, (tt, (tt, (tt, (tt, (tt, tt)))))))) })

pub h_accepted_last : IsHonest (accepted_last)
h_accepted_last = honest (accepted_last) (record { start = refl; keys = refl; client = (tt, (tt, (inr (inl refl), (tt, (tt, (tt, (tt, tt))))))); server = (tt, (tt, (tt, (tt, (tt, (tt, (tt, tt))))))) })

pub h_other_stream : (read : ReadCall) → read.id ≡ 0 → IsHonest (other_stream read)
h_other_stream read e = honest (other_stream read) (record { start = refl; keys = refl; client = (tt, (tt, (inr (inl refl), (tt, (tt, (tt, (tt, (tt, tt)))))))); server = (tt, (tt, (tt, (tt, (tt, (tt, (tt, (inl e, tt)))))))) })

pub h_unaccepted : (read : ReadCall) → IsHonest (run_with read unaccepted)
h_unaccepted read = honest (run_with read unaccepted) (record { start = refl; keys = refl; client = (tt, (inl refl, (inl refl, (tt, (tt, (tt, (tt, tt))))))); server = (tt, (tt, (tt, (tt, (tt, (tt, (tt, tt))))))) })

pub h_told_twice : (read : ReadCall) → IsHonest (asked_run read (tells_finished ∷ tells_finished ∷ []))
h_told_twice read = honest (asked_run read (tells_finished ∷ tells_finished ∷ [])) (record { start = refl; keys = refl; client = (tt, (inl refl, (inl refl, (tt, (tt, (tt, (tt, (tt, (tt, (tt, tt)))))))))); server = (tt, (tt, (tt, (tt, (tt, (tt, (tt, (tt, (tt, (tt, tt)))))))))) })
