use Rattle.std.proofs.Common.{◌++◌}
use Rattle.std.specs.Int.{w32}
use Rattle.byte_spelling.specs.Spelling.{number, bytes, list_of}
use Rattle.sys_record.specs.Tasks.{space, entry}
use Rattle.sys_record.specs.Doings.{doing}
use Rattle.sys_record.proofs.Puts.{then_put, put_of}
use Rattle.sys_record.proofs.task.TaskRecordSpeller.put.Goals as goal

pub returns-clause-spelled : goal.returns-clause-spelled
returns-clause-spelled c =
    then_put c.args.out.now c.put_u32.new.out c.put.new.out
    ((number w32).spell c.args.task.now.number)
    ((bytes.spell c.args.task.now.name) ++ (((number w32).spell c.args.task.now.father) ++ (((list_of (number w32)).spell c.args.task.now.sons) ++ (((list_of (number w32)).spell c.args.task.now.packets) ++ (((number w32).spell c.args.task.now.next_space) ++ (((list_of space).spell c.args.task.now.spaces) ++ (((list_of entry).spell c.args.task.now.directory) ++ (((number w32).spell c.args.task.now.packet_root) ++ (((number w32).spell c.args.task.now.run_root) ++ (((number w32).spell c.args.task.now.source_root) ++ ((doing.spell c.args.task.now.doing))))))))))))
    (c.in_ok-put_u32.ensures)
    (then_put c.put_u32.new.out c.put_bytes.new.out c.put.new.out
    (bytes.spell c.args.task.now.name)
    (((number w32).spell c.args.task.now.father) ++ (((list_of (number w32)).spell c.args.task.now.sons) ++ (((list_of (number w32)).spell c.args.task.now.packets) ++ (((number w32).spell c.args.task.now.next_space) ++ (((list_of space).spell c.args.task.now.spaces) ++ (((list_of entry).spell c.args.task.now.directory) ++ (((number w32).spell c.args.task.now.packet_root) ++ (((number w32).spell c.args.task.now.run_root) ++ (((number w32).spell c.args.task.now.source_root) ++ ((doing.spell c.args.task.now.doing)))))))))))
    (put_of (bytes.spell) c.put_u32.new.out c.put_bytes.new.out c.as_slice.result.now c.args.task.now.name c.as_slice.ensures c.in_ok-put_bytes.ensures.spelled)
    (then_put c.put_bytes.new.out c.put_u32-2.new.out c.put.new.out
    ((number w32).spell c.args.task.now.father)
    (((list_of (number w32)).spell c.args.task.now.sons) ++ (((list_of (number w32)).spell c.args.task.now.packets) ++ (((number w32).spell c.args.task.now.next_space) ++ (((list_of space).spell c.args.task.now.spaces) ++ (((list_of entry).spell c.args.task.now.directory) ++ (((number w32).spell c.args.task.now.packet_root) ++ (((number w32).spell c.args.task.now.run_root) ++ (((number w32).spell c.args.task.now.source_root) ++ ((doing.spell c.args.task.now.doing))))))))))
    (c.in_ok-put_u32-2.ensures)
    (then_put c.put_u32-2.new.out c.put_list.new.out c.put.new.out
    ((list_of (number w32)).spell c.args.task.now.sons)
    (((list_of (number w32)).spell c.args.task.now.packets) ++ (((number w32).spell c.args.task.now.next_space) ++ (((list_of space).spell c.args.task.now.spaces) ++ (((list_of entry).spell c.args.task.now.directory) ++ (((number w32).spell c.args.task.now.packet_root) ++ (((number w32).spell c.args.task.now.run_root) ++ (((number w32).spell c.args.task.now.source_root) ++ ((doing.spell c.args.task.now.doing)))))))))
    (put_of ((list_of (number w32)).spell) c.put_u32-2.new.out c.put_list.new.out c.as_slice-2.result.now c.args.task.now.sons c.as_slice-2.ensures c.in_ok-put_list.ensures.spelled)
    (then_put c.put_list.new.out c.put_list-2.new.out c.put.new.out
    ((list_of (number w32)).spell c.args.task.now.packets)
    (((number w32).spell c.args.task.now.next_space) ++ (((list_of space).spell c.args.task.now.spaces) ++ (((list_of entry).spell c.args.task.now.directory) ++ (((number w32).spell c.args.task.now.packet_root) ++ (((number w32).spell c.args.task.now.run_root) ++ (((number w32).spell c.args.task.now.source_root) ++ ((doing.spell c.args.task.now.doing))))))))
    (put_of ((list_of (number w32)).spell) c.put_list.new.out c.put_list-2.new.out c.as_slice-3.result.now c.args.task.now.packets c.as_slice-3.ensures c.in_ok-put_list-2.ensures.spelled)
    (then_put c.put_list-2.new.out c.put_u32-3.new.out c.put.new.out
    ((number w32).spell c.args.task.now.next_space)
    (((list_of space).spell c.args.task.now.spaces) ++ (((list_of entry).spell c.args.task.now.directory) ++ (((number w32).spell c.args.task.now.packet_root) ++ (((number w32).spell c.args.task.now.run_root) ++ (((number w32).spell c.args.task.now.source_root) ++ ((doing.spell c.args.task.now.doing)))))))
    (c.in_ok-put_u32-3.ensures)
    (then_put c.put_u32-3.new.out c.put_list-3.new.out c.put.new.out
    ((list_of space).spell c.args.task.now.spaces)
    (((list_of entry).spell c.args.task.now.directory) ++ (((number w32).spell c.args.task.now.packet_root) ++ (((number w32).spell c.args.task.now.run_root) ++ (((number w32).spell c.args.task.now.source_root) ++ ((doing.spell c.args.task.now.doing))))))
    (put_of ((list_of space).spell) c.put_u32-3.new.out c.put_list-3.new.out c.as_slice-4.result.now c.args.task.now.spaces c.as_slice-4.ensures c.in_ok-put_list-3.ensures.spelled)
    (then_put c.put_list-3.new.out c.put_list-4.new.out c.put.new.out
    ((list_of entry).spell c.args.task.now.directory)
    (((number w32).spell c.args.task.now.packet_root) ++ (((number w32).spell c.args.task.now.run_root) ++ (((number w32).spell c.args.task.now.source_root) ++ ((doing.spell c.args.task.now.doing)))))
    (put_of ((list_of entry).spell) c.put_list-3.new.out c.put_list-4.new.out c.as_slice-5.result.now c.args.task.now.directory c.as_slice-5.ensures c.in_ok-put_list-4.ensures.spelled)
    (then_put c.put_list-4.new.out c.put_u32-4.new.out c.put.new.out
    ((number w32).spell c.args.task.now.packet_root)
    (((number w32).spell c.args.task.now.run_root) ++ (((number w32).spell c.args.task.now.source_root) ++ ((doing.spell c.args.task.now.doing))))
    (c.in_ok-put_u32-4.ensures)
    (then_put c.put_u32-4.new.out c.put_u32-5.new.out c.put.new.out
    ((number w32).spell c.args.task.now.run_root)
    (((number w32).spell c.args.task.now.source_root) ++ ((doing.spell c.args.task.now.doing)))
    (c.in_ok-put_u32-5.ensures)
    (then_put c.put_u32-5.new.out c.put_u32-6.new.out c.put.new.out
    ((number w32).spell c.args.task.now.source_root)
    ((doing.spell c.args.task.now.doing))
    (c.in_ok-put_u32-6.ensures)
    (c.in_ok-put.ensures.spelled)))))))))))
