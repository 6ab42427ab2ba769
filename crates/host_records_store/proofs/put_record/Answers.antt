use Rattle.host_records.proofs.Records.{put_record, put-none}
use mathlib.Core.Path.{◌∙◌}
use Rattle.host_records_store.proofs.put_record.Goals as goal

pub returns-else-place-words : goal.returns-else-place-words
returns-else-place-words c = put-none c.args.words.now c.args.place c.args.segment c.if-place-words.false
