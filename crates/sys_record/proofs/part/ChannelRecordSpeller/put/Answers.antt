use Rattle.std.proofs.Common.{◌++◌}
use Rattle.std.specs.Int.{w32}
use Rattle.byte_spelling.specs.Spelling.{number, bytes, list_of}
use Rattle.sys_record.proofs.Puts.{then_put, put_of}
use Rattle.sys_record.proofs.part.ChannelRecordSpeller.put.Goals as goal

pub returns-clause-spelled : goal.returns-clause-spelled
returns-clause-spelled c =
    then_put c.args.out.now c.put_u32.new.out c.put_list.new.out
    ((number w32).spell c.args.channel.now.task)
    (((number w32).spell c.args.channel.now.last) ++ (((list_of bytes).spell c.args.channel.now.queue)))
    (c.in_ok-put_u32.ensures)
    (then_put c.put_u32.new.out c.put_u32-2.new.out c.put_list.new.out
    ((number w32).spell c.args.channel.now.last)
    (((list_of bytes).spell c.args.channel.now.queue))
    (c.in_ok-put_u32-2.ensures)
    (put_of ((list_of bytes).spell) c.put_u32-2.new.out c.put_list.new.out c.as_slice.result.now c.args.channel.now.queue c.as_slice.ensures c.in_ok-put_list.ensures.spelled))
