-- `writing::put_record` meets its contract: the fault's record, put.
use Rattle.writing.proofs.put_record.Goals as goal

pub returns : goal.returns
returns c = rw c.record_of-record.ensures at c.put_error.ensures
