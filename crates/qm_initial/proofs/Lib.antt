mod Lowering
