use Rattle.std.proofs.Common.{sym, ◌∙◌, ◌≡◌, ℕ, ◌+◌, List, length, nat_cmp, subst}
use Rattle.std.specs.Result.{OnOk}
use Rattle.std.specs.BTreeMap.{insert_entry}
use Rattle.quic_sets.specs.Parts.{Part}
use Rattle.quic_sets.proofs.Outcomes.{of_error}
use Rattle.quic_assembler.specs.Arrived.{settled}
use Rattle.quic_assembler.proofs.Parts.Last.{last_back, put_last, when_error}
use Rattle.quic_assembler.proofs.assembler.parts.Parts.append.Goals as goal

pub take_out-requires-clause-apart : goal.take_out-requires-clause-apart
take_out-requires-clause-apart c =
    let a = c.args in
    let same = when_error c.settle-outcome.result (sym c.is_err.ensures.value ∙ c.if-is_err.true) c.settle-outcome.ensures.err in
    let put = (subst (λ (p : List ℕ). c.fill_gap.new.self ≡ insert_entry nat_cmp a.self.now (a.at + length p) p) c.in_ok-copy.ensures c.in_ok-fill_gap.ensures.ok) in
    let back = last_back a.at a.self.now _ _ a.bytes.now c.runs-runs.ensures.apart c.requires.some c.requires.behind put same in
    rw back c.runs-runs.ensures.apart

pub take_out-requires-clause-counted : goal.take_out-requires-clause-counted
take_out-requires-clause-counted c =
    let a = c.args in
    let same = when_error c.settle-outcome.result (sym c.is_err.ensures.value ∙ c.if-is_err.true) c.settle-outcome.ensures.err in
    let put = (subst (λ (p : List ℕ). c.fill_gap.new.self ≡ insert_entry nat_cmp a.self.now (a.at + length p) p) c.in_ok-copy.ensures c.in_ok-fill_gap.ensures.ok) in
    let back = last_back a.at a.self.now _ _ a.bytes.now c.runs-runs.ensures.apart c.requires.some c.requires.behind put same in
    rw back c.runs-runs.ensures.value

pub take_out-requires-clause-bytes : goal.take_out-requires-clause-bytes
take_out-requires-clause-bytes c =
    let a = c.args in
    let same = when_error c.settle-outcome.result (sym c.is_err.ensures.value ∙ c.if-is_err.true) c.settle-outcome.ensures.err in
    let put = (subst (λ (p : List ℕ). c.fill_gap.new.self ≡ insert_entry nat_cmp a.self.now (a.at + length p) p) c.in_ok-copy.ensures c.in_ok-fill_gap.ensures.ok) in
    let back = last_back a.at a.self.now _ _ a.bytes.now c.runs-runs.ensures.apart c.requires.some c.requires.behind put same in
    rw back c.waiting-waiting.ensures

pub returns-then-is_err-clause-err : goal.returns-then-is_err-clause-err
returns-then-is_err-clause-err c =
    let a = c.args in
    let same = when_error c.settle-outcome.result (sym c.is_err.ensures.value ∙ c.if-is_err.true) c.settle-outcome.ensures.err in
    let put = (subst (λ (p : List ℕ). c.fill_gap.new.self ≡ insert_entry nat_cmp a.self.now (a.at + length p) p) c.in_ok-copy.ensures c.in_ok-fill_gap.ensures.ok) in
    let back = last_back a.at a.self.now _ _ a.bytes.now c.runs-runs.ensures.apart c.requires.some c.requires.behind put same in
    of_error c.settle-outcome.result (c.take_out.ensures ∙ back)

pub returns-else-is_err-clause-ok : goal.returns-else-is_err-clause-ok
returns-else-is_err-clause-ok c =
    let a = c.args in
    let put = put_last a.at a.self.now a.bytes.now c.runs-runs.ensures.apart c.requires.some c.requires.behind in
    subst (λ (ps : List Part). OnOk c.settle-outcome.result (c.settle-outcome.new.self ≡ settled ps)) ((subst (λ (p : List ℕ). c.fill_gap.new.self ≡ insert_entry nat_cmp a.self.now (a.at + length p) p) c.in_ok-copy.ensures c.in_ok-fill_gap.ensures.ok) ∙ sym put) c.settle-outcome.ensures.ok
