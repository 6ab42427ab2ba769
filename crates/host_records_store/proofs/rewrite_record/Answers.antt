use mathlib.Core.Path.{◌∙◌}
use Rattle.host_records.proofs.Records.{put_last, put_no-last}
use Rattle.host_records_store.proofs.rewrite_record.Goals as goal

pub returns-else-count-gt0 : goal.returns-else-count-gt0
returns-else-count-gt0 c = put_no-last _ _ _ c.if-count-gt0.false
