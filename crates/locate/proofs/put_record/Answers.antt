-- `locate::put_record` meets its contract: the part that starts at `at` came back with the record over its start, or as it was. Assumes nothing.
use native.Mathlib.Omega.{arith}
use Rattle.written.specs.Written.{record_of}
use Rattle.locate.proofs.Laid.{record_fits, record_laid, record_not, beyond}
use Rattle.locate.proofs.put_record.Goals as goal

pub returns-then-log-at : goal.returns-then-log-at
returns-then-log-at c = let a = c.args in beyond a.log.now a.at (record_of a.m) (omega arith)

pub overflow_add-result : goal.overflow_add-result
overflow_add-result c =
    let a = c.args in
    omega (arith, record_fits a.log.now a.at (omega arith) a.m _ _ c.write-answer.ensures c.if-answer-eq0.true)

pub returns-then-answer-eq0 : goal.returns-then-answer-eq0
returns-then-answer-eq0 c =
    let a = c.args in
    record_laid a.log.now a.at (omega arith) a.m _ _ c.write-answer.ensures c.if-answer-eq0.true

pub returns : goal.returns
returns c =
    let a = c.args in
    record_not a.log.now a.at (omega arith) a.m _ _ c.write-answer.ensures c.if-answer-eq0.false
