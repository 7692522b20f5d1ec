mod Popped
