use Rattle.csv_text.proofs.Records.{quoted_begin, quoted_more}
use Rattle.csv_text.proofs.field.push_quoted.Goals as goal

pub loop-byte-init : goal.loop-byte-init
loop-byte-init c = quoted_begin c.args.text.now.items c.push.new.self.items c.in_ok-push.ensures.items

pub loop-byte-preserved : goal.loop-byte-preserved
loop-byte-preserved c =
    quoted_more c.args.bytes.now c.loop-byte.byte-index c.args.text.now.items c.loop-byte.text.items c.push_escaped.new.text.items c.loop-byte-test.true c.loop-byte.invariant c.in_ok-push_escaped.ensures
